-- What making the calls of a list leaves, and of two lists.
use Rattle.std.specs.Prelude.{ℕ, ◌+◌, ◌≡◌, List, [], ◌++◌}
use Rattle.std.proofs.Math.Option.{some}
use Rattle.model.specs.Call.{Edit, after}
use Rattle.model_sheet.specs.Record.{Recorded, records}
use Rattle.model_sheet.specs.Sheet.{recorded_calls}
use Rattle.memory_table.specs.Order.{count_of}
use Rattle.memory.specs.Layout.{magic_string_of}
use Rattle.memory.specs.WellFormed.{limits_of, WellFormed}
use Rattle.memory.specs.Calls.{Same}

-- these calls, each on what the one before it left
pub record Made (L : List Edit) (source t p s t' p' s' : List ℕ) : Type 0 where
  pub desk_is : magic_string_of source t' p' s' ≡ after (limits_of t p s) L (magic_string_of source t p s)
  pub well_formed : WellFormed source t' p' s'
  pub no_calls : L ≡ [] → Same t p s t' p' s'

-- the calls of the records that bytes are
abbrev pub RanList : List ℕ → List ℕ → List ℕ → List ℕ → List ℕ → List ℕ → List ℕ → List ℕ → Type 0
RanList r source t p s t' p' s' = (l : List Recorded) → records r ≡ some l → Made (recorded_calls l) source t p s t' p' s'

-- those of two lists, and by how many chunks the desk has grown
pub record MadeBoth (L : List Edit) (source t p s t' p' s' : List ℕ) (cuts : ℕ) : Type 0 where
  pub made : Made L source t p s t' p' s'
  pub growth : count_of t' ≡ count_of t + cuts

abbrev pub RanBoth : List ℕ → List ℕ → List ℕ → List ℕ → List ℕ → List ℕ → List ℕ → List ℕ → List ℕ → ℕ → Type 0
RanBoth first second source t p s t' p' s' cuts =
    (l l' : List Recorded) → records first ≡ some l → records second ≡ some l' → MadeBoth (recorded_calls l ++ recorded_calls l') source t p s t' p' s' cuts
