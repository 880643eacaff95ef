-- Where a call lies among those that are filed.
use Rattle.std.specs.Prelude.{ℕ, ◌+◌, ◌-◌, ◌≤◌, ◌<◌, ◌≡◌, List, length, take, drop}
use Rattle.std.proofs.Math.Option.{some}
use Rattle.model_sheet.specs.Record.{Recorded, records}
use Rattle.sheet_records.specs.Found.{Taken}

-- a record lies from a place of s up to the next
pub record Passed (s : List ℕ) (at next : ℕ) : Type 0 where
  pub one : Recorded
  pub taken : Taken s at one next

-- s is whole records, more than i
pub record Behind (s : List ℕ) (i : ℕ) : Type 0 where
  pub list : List Recorded
  pub are : records s ≡ some list
  pub more : i < length list

-- behind the first i records of s one lies from at up to next: those before it, it, and those behind
pub record Located (s : List ℕ) (i at next : ℕ) : Type 0 where
  pub before_it : (l : List Recorded) → records s ≡ some l → records (take at s) ≡ some (take i l)
  pub it : (l : List Recorded) → records s ≡ some l → records (take (next - at) (drop at s)) ≡ some (take 1 (drop i l))
  pub behind_it : (l : List Recorded) → records s ≡ some l → records (drop next s) ≡ some (drop (i + 1) l)
  pub some_bytes : at < next
  pub within : next ≤ length s
