-- The records from a place on: the one that stands there, and those behind it.
use Prim.Native.Nat.{ℕ, ◌≤◌, ◌<◌}
use mathlib.Core.Path.{◌≡◌, refl}
use mathlib.Core.List.{List, [], ◌∷◌}
use mathlib.Core.Option.{Option, none, some}
use lib.ListN.{length, drop}
use native.Mathlib.Omega.{arith}
use Rattle.model_sheet.specs.Record.{Recorded, next_record, records}
use Rattle.sheet_records.specs.Found.{Taken}
use Rattle.sheet_records.proofs.Walk.{records_past, records_bad, records_taken}

-- the records l are this one and those from `next` on
pub record Behind (s : List ℕ) (next : ℕ) (one : Recorded) (l : List Recorded) : Type 0 where
  pub rest : List Recorded
  pub first : l ≡ one ∷ rest
  pub onward : records (drop next s) ≡ some rest

module _ (s : List ℕ) (at : ℕ) {l : List Recorded} (are : records (drop at s) ≡ some l) where
  pub behind : {r : Recorded} {next : ℕ} → Taken s at r next → Behind s next r l
  behind {r} {next} g = go (records (drop next s)) refl
    where
      go : (o : Option (List Recorded)) → records (drop next s) ≡ o → Behind s next r l
      go none e = let taken = records_taken g in let z : ◌≡◌ {A = ℕ} 0 1 = cc in absurd (omega arith)
      go (some m) e = let taken = records_taken g in record { rest = m; first = cc; onward = e }

  -- none behind the last byte
  pub behind_end : length s ≤ at → l ≡ []
  behind_end h = let past = records_past s at h in cc

  -- and a record stands there
  pub behind_bad : {X : Type 0} → at < length s → next_record (drop at s) ≡ none → X
  behind_bad h e = let bad = records_bad s at h e in let z : ◌≡◌ {A = ℕ} 0 1 = cc in absurd (omega arith)
