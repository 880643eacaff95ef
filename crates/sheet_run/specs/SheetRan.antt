-- What a run of a sheet promises of every input.
use Rattle.std.specs.Prelude.{ℕ, ◌≡◌, List, [], ◌++◌, length, drop}
use Rattle.model.specs.MagicString.{new}
use Rattle.model.specs.Call.{Outcome}
use Rattle.model_sheet.specs.Sheet.{source_of, run_sheet}
use Rattle.memory.specs.Layout.{magic_string_of}
use Rattle.memory.specs.WellFormed.{limits_of, Full, WellFormed}
use Rattle.memory.specs.Calls.{Same}
use Rattle.memory.specs.declared.Answer.{Answer}

-- what the model says of a sheet in these tables, with as many answer bytes lent
abbrev pub outcome : List ℕ → List ℕ → List ℕ → List ℕ → List ℕ → Outcome
outcome sheet t p s a = run_sheet (limits_of t p s) (length a) (new []) sheet

-- In tables of a desk's sizes, whatever they held. The desk's source is the sheet's part. Numbering, places in the store and unused bytes are the program's choice
pub record SheetDone (sheet t p s a t' p' s' a' : List ℕ) (r : Answer) : Type 0 where
  pub number_is : r.number ≡ (outcome sheet t p s a).shown.number
  pub value_is : r.value ≡ (outcome sheet t p s a).shown.value
  pub written : a' ≡ (outcome sheet t p s a).shown.written ++ drop (length (outcome sheet t p s a).shown.written) a
  pub desk_is : r.number ≡ 0 → magic_string_of (source_of sheet) t' p' s' ≡ (outcome sheet t p s a).desk
  pub well_formed : r.number ≡ 0 → WellFormed (source_of sheet) t' p' s'
  pub refused : (r.number ≡ 0 → ⊥) → Same t p s t' p' s'

-- the same in any tables: 2 and nothing written where they have not the full sizes
pub record SheetRan (sheet t p s a t' p' s' a' : List ℕ) (r : Answer) : Type 0 where
  pub not_sized : (Full t p s → ⊥) → (r.number ≡ 2) × (r.value ≡ 0) × Same t p s t' p' s' × (a' ≡ a)
  pub sized : Full t p s → SheetDone sheet t p s a t' p' s' a' r
