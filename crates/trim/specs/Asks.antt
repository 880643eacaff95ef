-- The trims as calls: what they have in common, and the tests that come before their steps.
use Rattle.std.specs.Prelude.{◌≡◌, Bool, true, false, not, cond, List, [], ℕ, leb}
use Rattle.model.specs.MagicString.{MagicString, ok}
use Rattle.model.specs.Call.{Edit, options_valid, texts, positions, whole, idle, steps}
use Rattle.memory_used.specs.declared.Outcome.{Outcome}
use Rattle.memory_used.specs.Above.{Leaves}
use Rattle.trim_steps.specs.Model.{trim_sides}

-- the edit e is a trim of these sides by this pattern
pub record Asks (both front : Bool) (pattern : ℕ) (e : Edit) : Type 0 where
  pub options : options_valid e ≡ leb pattern 1
  pub no_text : texts e ≡ []
  pub no_position : positions e ≡ []
  pub whole_desk : whole e ≡ true
  pub busy : idle e ≡ false
  pub does : (m : MagicString) → steps e m ≡ ok (trim_sides both front pattern m)

-- 15, then 20 where a chunk is marked
abbrev pub refusal : ℕ → Bool → ℕ
refusal pattern marked = cond (not (leb pattern 1)) 15 (cond marked 20 0)

-- what each such edit leaves
abbrev pub TrimLeaves : Bool → Bool → ℕ → List ℕ → List ℕ → List ℕ → List ℕ → List ℕ → List ℕ → List ℕ → Outcome → Type 0
TrimLeaves both front pattern source t p s t' p' s' o = (e : Edit) → Asks both front pattern e → Leaves e source t p s t' p' s' o
