-- What running a list of records leaves.
use Rattle.std.specs.Prelude.{ℕ, ◌≡◌, List, ◌++◌, length, drop}
use Rattle.std.proofs.Math.Option.{some}
use Rattle.model.specs.Call.{after, answers}
use Rattle.model_sheet.specs.Record.{Recorded, records}
use Rattle.model_sheet.specs.Sheet.{recorded_calls}
use Rattle.memory.specs.Layout.{magic_string_of}
use Rattle.memory.specs.WellFormed.{limits_of, WellFormed}

-- the calls of these records, each on what the one before it left: the desk after the last, and the answers at the front of `a`
pub record RanAll (list : List Recorded) (source t p s a t' p' s' a' : List ℕ) : Type 0 where
  pub desk_is : magic_string_of source t' p' s' ≡ after (limits_of t p s) (recorded_calls list) (magic_string_of source t p s)
  pub answers_are : a' ≡ answers (limits_of t p s) (recorded_calls list) (magic_string_of source t p s) ++ drop (length list) a
  pub well_formed : WellFormed source t' p' s'

-- the same of the records that bytes are
abbrev pub RanRecords : List ℕ → List ℕ → List ℕ → List ℕ → List ℕ → List ℕ → List ℕ → List ℕ → List ℕ → List ℕ → Type 0
RanRecords r source t p s a t' p' s' a' = (list : List Recorded) → records r ≡ some list → RanAll list source t p s a t' p' s' a'
