-- What an edit on small tables promises of the lent ones. The small tables' own limits never show: where they are passed, 13 only says that this way is not open.
use Rattle.std.specs.Prelude.{◌≡◌, true, List, [], ℕ}
use Rattle.model.specs.MagicString.{MagicString, Result}
use Rattle.model.specs.Limits.{within}
use Rattle.memory_layout.specs.Refusals.{number_of}
use Rattle.memory.specs.Layout.{magic_string_of}
use Rattle.memory.specs.WellFormed.{limits_of, Sized, Readable}
use Rattle.memory.specs.Calls.{Same}
use Rattle.memory_used.specs.declared.Used.{Used}
use Rattle.memory_used.specs.declared.Outcome.{Outcome}
use Rattle.memory_used.specs.Above.{Above}
use Rattle.edit_rebuild.specs.Rebuilt.{Rebuilt, Finished}
use Rattle.edit_scratch.specs.Tables.{StepsRan}

-- the desk of t p s keeps the limits of the tables t₀ p₀ s₀
pub record Fits (t p s t₀ p₀ s₀ : List ℕ) : Type 0 where
  pub sized : Sized t₀ p₀ s₀
  pub within_is : within (limits_of t₀ p₀ s₀) (magic_string_of [] t p s) ≡ true

-- it is laid out in t1 p1 s1, and l is what it uses there
pub record LaidIn (t p s t1 p1 s1 : List ℕ) (l : Used) : Type 0 where
  pub rebuilt : Rebuilt t p s t1 p1 s1
  pub fits : Fits t p s t1 p1 s1
  pub above : Above t1 p1 s1 l

-- r and c are the number and the cuts of the edit, which left t p s; r' and c' the call's. t₀ p₀ s₀ are the lent tables before, t' p' s' after
pub record Ended (t p s t₀ p₀ s₀ t' p' s' : List ℕ) (r c r' c' : ℕ) : Type 0 where
  pub made : r ≡ 0 → Finished t p s t₀ p₀ s₀ t' p' s' r c r' c'
  pub refused : (r ≡ 0 → ⊥) → (r' ≡ r) × Same t₀ p₀ s₀ t' p' s'
  pub no_cuts : (r ≡ 0 → ⊥) → c' ≡ 0

-- a call whose steps are f, on the small tables, but where it answers 13
pub record Attempted (f : MagicString → Result) (source t p s t' p' s' : List ℕ) (r c : ℕ) : Type 0 where
  pub ran : (r ≡ 13 → ⊥) → StepsRan f source t p s t' p' s' r c
  pub readable : r ≡ 0 → Readable t' p' s'

-- the call is made, or 13 and nothing written: then it is to be made in another way
pub record Tried (f : MagicString → Result) (source t p s t' p' s' : List ℕ) (o : Outcome) : Type 0 where
  pub ran : (number_of o.status ≡ 13 → ⊥) → StepsRan f source t p s t' p' s' (number_of o.status) o.cuts
  pub same : number_of o.status ≡ 13 → Same t p s t' p' s'
  pub above : Above t' p' s' o.used
