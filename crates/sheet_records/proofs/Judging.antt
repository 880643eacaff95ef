-- What judging a sheet finds.
use Prim.Native.Nat.{ℕ, ◌+◌, ◌≤◌, ◌<◌}
use mathlib.Core.Path.{◌≡◌, refl, sym, ◌∙◌}
use mathlib.Core.List.{List}
use mathlib.Core.Option.{none, some}
use lib.ListN.{length, get_or, take, drop}
use native.Mathlib.Omega.{arith}
use Rattle.model_sheet.specs.BigEndian.{number}
use Rattle.model_sheet.specs.Record.{Recorded, records}
use Rattle.model_sheet.specs.Sheet.{MOST_BYTES, MOST_RECORDS, VERSION, FRONT, source_size, records_of, sheet}
use Rattle.model_sheet.proofs.Sheets.{of_read, unread}
use Rattle.sheet_records.specs.Found.{Counted}
use Rattle.sheet_records.specs.SheetFound.{SheetIs}
use Rattle.sheet_records.proofs.Parts.{records_part, size_is, records_are}

module _ (s : List ℕ) where
  pub too_long : MOST_BYTES < length s → sheet s ≡ none
  too_long h = unread s (λ w r. let size = r.front.size in omega arith)

  pub too_short : length s < FRONT → sheet s ≡ none
  too_short h = unread s (λ w r. let there = r.front.there in omega arith)

  pub other_version : (get_or s 0 0 ≡ VERSION → ⊥) → sheet s ≡ none
  other_version h = unread s (λ w r. h r.front.version)

  module _ (n : ℕ) (size : n ≡ number (take 2 (drop 1 s))) where
    sized : n ≡ source_size s
    sized = size_is s n size

    pub cut_off : length s < FRONT + n → sheet s ≡ none
    cut_off h = unread s (λ w r. let there = r.front.there in omega (arith, sized))

    pub broken : ((l : List Recorded) → records (records_part s n) ≡ some l → MOST_RECORDS < length l) → sheet s ≡ none
    broken h = unread s (λ w r. let few = r.count in let many = h w.list (records_are s n sized ∙ r.list) in omega arith)

    pub is_sheet : length s ≤ MOST_BYTES → get_or s 0 0 ≡ VERSION → FRONT + n ≤ length s → {c : ℕ} → Counted (records_part s n) MOST_RECORDS c → SheetIs s n c
    is_sheet long version there {c} h =
        let few : length h.list ≤ MOST_RECORDS = let f = h.few in omega (arith, h.count) in
        let are : records (records_of s) ≡ some h.list = sym (records_are s n sized) ∙ h.are in
        record {
          list = h.list;
          is = of_read (record { front = record { size = long; version = version; there = omega (arith, sized) }; source = refl; list = are; count = few });
          are = are;
          count = h.count;
          few = h.few;
          size = sized;
          there = there;
        }
