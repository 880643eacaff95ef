-- A call to be filed, judged.
use Prim.Native.Nat.{ℕ, ◌+◌, ◌≤◌, ◌<◌}
use mathlib.Core.Path.{◌≡◌, sym, ap}
use mathlib.Core.Bool.{true}
use mathlib.Core.List.{List, [], ◌∷◌, ◌++◌}
use mathlib.Core.Option.{none}
use lib.ListN.{length, drop, length-append}
use native.Mathlib.Omega.{arith}
use Rattle.model.proofs.Lists.{sum_snoc}
use Rattle.model_sheet.specs.Record.{Recorded, parsed, next_record}
use Rattle.model_sheet.proofs.Whole.{Whole, whole_of, of_whole}
use Rattle.model_filed.specs.Filed.{MOST_CALLS, MOST_TEXT, is_record}
use Rattle.model_filed.proofs.Filing.{Single, of_single, not_single, many_bounds, long_bounds, refused_16, refused_13}
use Rattle.sheet_records.specs.Found.{Taken}
use Rattle.sheet_records.proofs.Walk.{taken_one, next_missing}
use Rattle.filed_record.specs.declared.Size.{Size}
use Rattle.filed_record.specs.Judged.{FilesCall, RefusesCall}

module _ (s : List ℕ) (z : Size) where
  broken : (Single s → ⊥) → RefusesCall s z 16
  broken h = record { some = omega arith; refuses = λ l _ _. refused_16 s l (not_single s h) }

  -- no record at the front
  pub refuses_bad : next_record (drop 0 s) ≡ none → RefusesCall s z 16
  refuses_bad e = broken (λ x.
      let yes = of_whole x.whole in
      let no = next_missing s e in
      let q : ◌≡◌ {A = ℕ} 0 1 = cc in
      absurd (omega arith))

  module _ {r : Recorded} {next : ℕ} (g : Taken s 0 r next) where
    whole : Whole s
    whole = (whole_of s r (taken_one g).0).0

    fields : r ≡ parsed s
    fields = (whole_of s r (taken_one g).0).1

    -- more bytes behind it
    pub refuses_more : (next ≡ length s → ⊥) → RefusesCall s z 16
    refuses_more h = broken (λ x. let all = x.all in h (omega (arith, (taken_one g).1)))

    module _ (all : next ≡ length s) where
      one : is_record s ≡ true
      one = of_single (record { all = omega (arith, (taken_one g).1); whole = whole })

      text_length : length (parsed s).text ≡ length r.text
      text_length = ap (λ (r : Recorded). length r.text) (sym fields)

      pub refuses_calls : MOST_CALLS ≤ z.count → RefusesCall s z 13
      refuses_calls h =
          record {
            some = omega arith;
            refuses = λ l n t. refused_13 s l one (many_bounds (l ++ (parsed s ∷ [])) (omega (arith, length-append l (parsed s ∷ []))));
          }

      pub refuses_text : MOST_TEXT < z.text + length r.text → RefusesCall s z 13
      refuses_text h =
          record {
            some = omega arith;
            refuses = λ l n t.
                refused_13 s l one (long_bounds (l ++ (parsed s ∷ [])) (omega (arith, sum_snoc (λ (r : Recorded). length r.text) l (parsed s), text_length)));
          }

      pub files_call : z.count < MOST_CALLS → z.text + length r.text ≤ MOST_TEXT → FilesCall s z r
      files_call h t =
          record {
            single = one;
            fields = fields;
            calls = h;
            texts = t;
          }

-- the record's text
pub files_text : {s : List ℕ} {z : Size} {r : Recorded} → FilesCall s z r → length (parsed s).text ≡ length r.text
files_text g = ap (λ (r : Recorded). length r.text) (sym g.fields)
