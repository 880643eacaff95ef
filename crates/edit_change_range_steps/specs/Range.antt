-- `remove`, `reset` and `freeze` past their tests: two cuts, then every chunk of the range is cleared, or frozen.
use Rattle.std.specs.Prelude.{◌≡◌, Bool, true, false, ◌||◌, cond, List, [], ◌∷◌, ◌⊎◌, ℕ, eqb}
use Rattle.std.proofs.Math.Option.{none, some}
use Rattle.model.specs.Text.{any}
use Rattle.model.specs.Chunk.{Texts, bare}
use Rattle.model.specs.MagicString.{MagicString, Result}
use Rattle.model.specs.Frozen.{has_frozen, freeze_range}
use Rattle.model.specs.Movement.{change_range}
use Rattle.model.specs.Call.{Edit, asked, steps, refused_before, idle}
use Rattle.memory_layout.specs.Layout.{NONE}
use Rattle.memory.specs.Layout.{magic_string_of}
use Rattle.memory.specs.WellFormed.{Readable}
use Rattle.memory.specs.Calls.{Ran}
use Rattle.memory_list.specs.declared.Change.{Change}
use Rattle.memory_list.specs.declared.Change.TheVariants.{Clear, Freeze}
use Rattle.memory_list.specs.Changes.{ChangeDone}
use Rattle.memory_frozen.specs.Frozen.{frozen_in_rows}
use Rattle.edit_row_laws.specs.Kept.{Kept}
use Rattle.edit_scratch.specs.Tables.{Did}
use Rattle.edit_split_at.specs.Cuts.{Spans}

-- what the chunks of a cleared range get: an empty replacement, at the place v, or none
abbrev pub cleared_to : ℕ → Texts → Texts
cleared_to v x = bare (cond (eqb v NONE) none (some []))

-- the model's steps
abbrev pub change_of : Change → ℕ → ℕ → MagicString → Result
change_of (Clear v) a b = change_range has_frozen (cleared_to v) a b
change_of Freeze a b = freeze_range a b

-- the numbers other than 0, with each of which the cuts stay
abbrev pub refusals : Change → List ℕ
refusals (Clear v) = 6 ∷ 20 ∷ []
refusals Freeze = 6 ∷ []

-- the place of an empty text: 0, or the mark for none
abbrev pub EmptyAt : Change → Type 0
EmptyAt (Clear v) = (v ≡ 0) ⊎ (v ≡ NONE)
EmptyAt Freeze = Unit {0}

-- ── the rows of the range ──
-- whether a range that is cut at both ends is refused
abbrev pub change_refused_by : Change → ℕ → ℕ → List ℕ → Bool
change_refused_by (Clear v) a b t = frozen_in_rows false a b t
change_refused_by Freeze a b t = false

pub record ChangeTried (x : Change) (a b : ℕ) (t t' : List ℕ) (r : ℕ) : Type 0 where
  pub refused : change_refused_by x a b t ≡ true → (r ≡ 20) × (t' ≡ t)
  pub changed : change_refused_by x a b t ≡ false → (r ≡ 0) × ChangeDone x a b t t'

-- ── the steps ──
pub record RangeDone (x : Change) (a b : ℕ) (t t' : List ℕ) (r c : ℕ) : Type 0 where
  pub leave : (source p s : List ℕ) → Readable t p s → Spans source t p s → Did (change_of x a b) source t p s t' p s r c
  pub readable : (p s : List ℕ) → Readable t p s → Readable t' p s
  pub number : eqb r 0 || any (eqb r) (refusals x) ≡ true
  pub kept : Kept t t'

-- ── the call, for any of the edits ──
abbrev pub RangeRan : Change → ℕ → ℕ → List ℕ → List ℕ → List ℕ → List ℕ → List ℕ → List ℕ → List ℕ → ℕ → ℕ → Type 0
RangeRan x a b source t p s t' p' s' r c =
    (e : Edit) → refused_before (magic_string_of source t p s) e ≡ 0
    → steps e (magic_string_of source t p s) ≡ change_of x a b (magic_string_of source t p s) → idle e ≡ false → (asked e).leaving ≡ refusals x
    → Ran e source t p s t' p' s' r c
