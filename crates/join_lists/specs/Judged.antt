-- What judging a list answers, by cases.
use Rattle.std.specs.Prelude.{ℕ, ◌≡◌, List, Option, Some, None}
use Rattle.std.proofs.Math.Option.{none, some}
use Rattle.model_sheet.specs.Sheet.{MOST_RECORDS}
use Rattle.model_join.specs.Join.{list}
use Rattle.sheet_records.specs.Found.{Counted}

-- a list of n records
pub record ListIs (s : List ℕ) (n : ℕ) : Type 0 where
  pub counted : Counted s MOST_RECORDS n
  pub is : list s ≡ some counted.list

abbrev pub JudgesList : List ℕ → Option ℕ → Type 0
JudgesList s (Some n) = ListIs s n
JudgesList s None = list s ≡ none
