-- What printing a sheet asks and leaves.
use Rattle.std.specs.Prelude.{ℕ, ◌≤◌, ◌≡◌, List, ◌++◌, length, drop}
use Rattle.model_sheet.specs.Sheet.{MOST_RECORDS, source_of, run_of, printed}
use Rattle.memory.specs.Layout.{magic_string_of}
use Rattle.memory.specs.WellFormed.{Full, WellFormed}

-- what a run that was accepted has left: n calls, their answers at the front of a, and the desk
pub record Left (sheet : List ℕ) (n : ℕ) (t p s a : List ℕ) : Type 0 where
  pub number : (run_of sheet).shown.number ≡ 0
  pub value : n ≡ (run_of sheet).shown.value
  pub answers : a ≡ (run_of sheet).shown.written ++ drop (length (run_of sheet).shown.written) a
  pub room : length a ≡ MOST_RECORDS
  pub desk : magic_string_of (source_of sheet) t p s ≡ (run_of sheet).desk
  pub well_formed : WellFormed (source_of sheet) t p s
  pub full_size : Full t p s

-- all that the program prints at the front of d, and how many bytes that is; what lies behind it stays
pub record PutPrinted (sheet d d' : List ℕ) (r : ℕ) : Type 0 where
  pub out_is : d' ≡ printed sheet ++ drop (length (printed sheet)) d
  pub size_is : r ≡ length (printed sheet)
  pub fits : r ≤ length d'
