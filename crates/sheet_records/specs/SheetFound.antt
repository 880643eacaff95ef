-- What judging a whole sheet answers, by cases.
use Rattle.std.specs.Prelude.{ℕ, ◌+◌, ◌≤◌, ◌≡◌, List, length, Option, Some, None}
use Rattle.std.proofs.Math.Option.{none, some}
use Rattle.model_sheet.specs.Record.{Recorded, records}
use Rattle.model_sheet.specs.Sheet.{MOST_RECORDS, FRONT, source_size, source_of, records_of, sheet}
use Rattle.sheet_records.specs.declared.sheet.Shape.{Shape}

-- s is a sheet with n bytes of source and c records
pub record SheetIs (s : List ℕ) (n c : ℕ) : Type 0 where
  pub list : List Recorded
  pub is : sheet s ≡ some (record { source = source_of s; list = list })
  pub are : records (records_of s) ≡ some list
  pub count : length list ≡ c
  pub few : c ≤ MOST_RECORDS
  pub size : n ≡ source_size s
  pub there : FRONT + n ≤ length s

-- none where "the version, a length, a kind, the record count or the size breaks these rules"
abbrev pub JudgesSheet : List ℕ → Option Shape → Type 0
JudgesSheet s (Some x) = SheetIs s x.source_n x.count
JudgesSheet s None = sheet s ≡ none
