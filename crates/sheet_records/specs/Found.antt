-- What reading at a place, walking over records and judging a list answer, by cases.
use Rattle.std.specs.Prelude.{ℕ, ◌+◌, ◌≤◌, ◌<◌, ◌≡◌, List, ◌∷◌, true, length, get_or, drop, Result, Ok, Err, Option, Some, None}
use Rattle.std.proofs.Math.Option.{none, some}
use Rattle.model_sheet.specs.Record.{Recorded, fits, extent, next_record, records, text_size}
use Rattle.sheet_records.specs.Kinds.{code}
use Rattle.sheet_records.specs.declared.Record.{Record}
use Rattle.sheet_records.specs.declared.BadRecord.{BadRecord}
use Rattle.sheet_records.specs.declared.Records.{Records}
use Rattle.sheet_records.specs.declared.Totals.{Totals}

-- the record of these fields, its kind as a number
abbrev pub recorded : Record → Recorded
recorded e = record { kind = code e.kind; a = e.a; b = e.b; c = e.c; text = e.text.now }

-- the record at a place of s, and the place behind it
pub record Taken (s : List ℕ) (at : ℕ) (r : Recorded) (next : ℕ) : Type 0 where
  pub one : next_record (drop at s) ≡ some (r, drop next s)
  pub text_inside : at + length r.text < next
  pub there : next ≤ length s

-- a whole record of n bytes and this kind stands at a place of s
pub record Stands (s : List ℕ) (at kind n : ℕ) : Type 0 where
  pub size : n ≡ extent (drop at s)
  pub third : kind ≡ get_or (drop at s) 2 0
  pub good : fits kind n ≡ true
  pub there : at + n ≤ length s

abbrev pub Found : List ℕ → ℕ → Option Record → Type 0
Found s at (Some e) = Taken s at (recorded e) e.next
Found s at None = next_record (drop at s) ≡ none

-- ── one behind the other ──
-- where a walk stands, in which bytes
abbrev pub walk_bytes : Records → List ℕ
walk_bytes x = x.bytes.now

abbrev pub walk_at : Records → ℕ
walk_at x = x.at

-- the record that stands there, and on behind it; or that there is none, and nothing behind
abbrev pub Gives : Records → Option (Result Record BadRecord) → Records → Type 0
Gives x None y = length (walk_bytes x) ≤ walk_at x
Gives x (Some (Ok e)) y = Taken (walk_bytes x) (walk_at x) (recorded e) (walk_at y) × (walk_bytes y ≡ walk_bytes x)
Gives x (Some (Err b)) y =
    (walk_at x < length (walk_bytes x)) × (next_record (drop (walk_at x) (walk_bytes x)) ≡ none) × (length (walk_bytes y) ≤ walk_at y)

-- records stand from a place on, at least one
pub record Next (r : List ℕ) (at : ℕ) : Type 0 where
  pub one : Recorded
  pub rest : List Recorded
  pub are : records (drop at r) ≡ some (one ∷ rest)

-- whole records up to the end, n of them, at most as many as allowed
pub record Counted (s : List ℕ) (most n : ℕ) : Type 0 where
  pub list : List Recorded
  pub are : records s ≡ some list
  pub count : length list ≡ n
  pub few : n ≤ most

-- the same, and their texts have m bytes
pub record Measured (s : List ℕ) (most n m : ℕ) : Type 0 where
  pub counted : Counted s most n
  pub text : text_size counted.list ≡ m

abbrev pub Counts : List ℕ → ℕ → Option Totals → Type 0
Counts s most (Some x) = Measured s most x.count x.text
Counts s most None = (l : List Recorded) → records s ≡ some l → most < length l
