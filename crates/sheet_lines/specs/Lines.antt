-- What printing leaves in a buffer.
use Rattle.std.specs.Prelude.{ℕ, ◌+◌, ◌*◌, ◌≤◌, ◌≡◌, List, ◌++◌, length, take, drop}
use Rattle.std.proofs.Math.Option.{some}
use Rattle.model.specs.Text.{Text}
use Rattle.model_sheet.specs.Record.{Recorded, records}
use Rattle.model_sheet.specs.Sheet.{MOST_LINE, lines}

-- d with t in the place of what stood there from a place on, and the place behind it
pub record PutText (d : List ℕ) (at : ℕ) (t : Text) (d' : List ℕ) (r : ℕ) : Type 0 where
  pub out_is : d' ≡ take at d ++ (t ++ drop (at + length t) d)
  pub next_is : r ≡ at + length t

-- the lines of these records with their answers at the front of d, and how many bytes they are
pub record LinesAre (list : List Recorded) (ns d d' : List ℕ) (r : ℕ) : Type 0 where
  pub out_is : d' ≡ lines list ns ++ drop (length (lines list ns)) d
  pub size_is : r ≡ length (lines list ns)

-- the same of the records that bytes are, with the first n answers
pub record PutLines (s : List ℕ) (n : ℕ) (answers d d' : List ℕ) (r : ℕ) : Type 0 where
  pub are : (list : List Recorded) → records s ≡ some list → LinesAre list (take n answers) d d' r
  pub few : r ≤ MOST_LINE * n
