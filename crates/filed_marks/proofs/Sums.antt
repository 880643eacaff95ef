-- Marks added one by one, and what their sum is to the model.
use Prim.Native.Nat.{ℕ, ◌+◌, ◌*◌, ◌≤◌, ◌<◌}
use mathlib.Core.Path.{◌≡◌, sym, ap, subst, ◌∙◌}
use mathlib.Core.List.{List}
use mathlib.Core.Option.{some}
use native.Mathlib.Numerals.{add-one}
use native.Mathlib.Omega.{arith}
use lib.ListN.{length, get_or, take, length-drop}
use lib.Seq.{take-suc, get_or-drop}
use Rattle.memory_layout.specs.Layout.{RECORD_MARKS}
use Rattle.model.specs.Text.{sum}
use Rattle.model.proofs.Lists.{sum_snoc}
use Rattle.model_filed.specs.Filed.{Entry}
use Rattle.model_filed.specs.Marks.{total}
use Rattle.model_filed.proofs.Marks.{total_with}
use Rattle.filed_record.specs.declared.Size.{Size}
use Rattle.filed_record.specs.Record.{record_answers_of, record_marks_of, entries_of, Holds}
use Rattle.filed_record.proofs.Holding.{entries_are}
use Rattle.filed_marks.specs.Sums.{Sums}

-- after i turns: the sum of the first i, each a byte
pub record Summing (b : List ℕ) (i r : ℕ) : Type 0 where
  pub sums : Sums b i r
  pub most : r ≤ 255 * i

pub summing_none : (b : List ℕ) → Summing b 0 0
summing_none b = record { sums = record { is = omega arith }; most = omega arith }

pub summing_more : {b : List ℕ} {i r : ℕ} → Summing b i r → RECORD_MARKS + i < length b → get_or b (RECORD_MARKS + i) 0 < 256 → Summing b (i + 1) (r + get_or b (RECORD_MARKS + i) 0)
summing_more {b} {i} {r} s there byte =
    let is = s.sums.is in
    record {
      sums = record {
        is = rw (add-one i, take-suc (record_marks_of b) i 0 (omega (arith, length-drop RECORD_MARKS b)), get_or-drop RECORD_MARKS b i 0)
            (omega (arith, sum_snoc (λ m. m) (take i (record_marks_of b)) (get_or b (RECORD_MARKS + i) 0)));
      };
      most = let m = s.most in omega arith;
    }

pub summing_all : {b : List ℕ} {i r n : ℕ} → Summing b i r → i ≡ n → Sums b n r
summing_all {b} {r = r} s e = subst (λ k. Sums b k r) e s.sums

-- the sum of the record's marks is the model's total
pub total_is : {w b : List ℕ} {z : Size} {n r : ℕ} (h : Holds w b z) (l : List Entry) → entries_of w b ≡ some l → Sums b n r → n ≡ z.count → r ≡ total l
total_is {b = b} h l q s all =
    let few = h.few in
    let count = h.count in
    let long : length h.list ≤ length (record_marks_of b) = omega (arith, length-drop RECORD_MARKS b, h.bytes) in
    s.is ∙ ap (λ k. sum (λ m. m) (take k (record_marks_of b))) (all ∙ sym count) ∙ sym (total_with h.list (record_answers_of b) (record_marks_of b) long) ∙ ap total (sym (entries_are h l q))
