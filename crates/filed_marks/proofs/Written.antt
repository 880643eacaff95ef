-- Marks written: one byte of the record, and in the model the marks of one entry.
use Prim.Native.Nat.{ℕ, suc, ◌+◌, ◌-◌, ◌≤◌, ◌<◌}
use mathlib.Core.Path.{◌≡◌, refl, sym, ap, ◌∙◌}
use mathlib.Core.List.{List}
use mathlib.Core.Option.{Option, some}
use native.Mathlib.Decide.{ℕ_discrete}
use native.Mathlib.Omega.{arith}
use lib.ListN.{length, get_or, take, set, length-drop, length-set}
use lib.Seq.{get_or-set_same, get_or-set_other, take-set-le, drop-set-lt, drop-set-add}
use Rattle.memory_layout.specs.Layout.{RECORD_ANSWERS, RECORD_CALLS, RECORD_MARKS, KEPT_STORE}
use Rattle.memory.specs.declared.Answer.{Answer}
use Rattle.model_sheet.specs.Record.{records}
use Rattle.model_filed.specs.Filed.{Entry, entries_with, no_such_call}
use Rattle.model_filed.specs.Marks.{HIGHEST_MARKS, mark_behind, refused_marks}
use Rattle.model_filed.proofs.Filing.{mark_with, with_same, found_range, not_found}
use Rattle.model_filed.proofs.Marks.{marks_17, marks_21, marks_0, set_refused, set_done}
use Rattle.filed_record.specs.declared.Size.{Size}
use Rattle.filed_record.specs.Record.{record_answers_of, record_marks_of, entries_of, Holds}
use Rattle.filed_record.specs.Marks.{MarksSet}
use Rattle.filed_record.proofs.Holding.{entries_are, holds_entries}
use Rattle.filed_taken.proofs.Judging.{count_is}

-- ── refused: nothing is changed ──
module _ (k marks : ℕ) {w b : List ℕ} {l : List Entry} {r : Answer} (q : entries_of w b ≡ some l) where
  unwritten : (i : ℕ) → refused_marks k marks l ≡ suc i → (r.number ≡ suc i) × (r.value ≡ 0) → MarksSet k marks w b b l r
  unwritten i e n =
      record {
        number_is = n.0 ∙ sym e;
        value_is = n.1;
        record_is = q ∙ ap {B = Option (List Entry)} some (sym (set_refused k marks l i e));
        written = λ z. let n = n.0 in absurd (omega arith);
        refused = λ _. refl;
        same_kept = record { tables = refl; store = refl };
      }

  pub refused_17 : {n : ℕ} → no_such_call k l ≡ n → (n ≡ 0 → ⊥) → (r.number ≡ n) × (r.value ≡ 0) → MarksSet k marks w b b l r
  refused_17 e h n =
      let none = not_found k l (λ z. h (sym e ∙ z)) in
      unwritten 16 (marks_17 k marks l none) (n.0 ∙ sym e ∙ none, n.1)

  pub refused_21 : no_such_call k l ≡ 0 → HIGHEST_MARKS < marks → (r.number ≡ 21) × (r.value ≡ 0) → MarksSet k marks w b b l r
  refused_21 e h n = unwritten 20 (marks_21 k marks l e h) n

-- ── written ──
module _ (w b : List ℕ) (z : Size) (i m : ℕ) (h : Holds w b z) (there : i < z.count) (fits : m ≤ HIGHEST_MARKS) where
  holds_written : Holds w (set b (RECORD_MARKS + i) m) z
  holds_written =
      record {
        words = h.words;
        bytes = length-set b (RECORD_MARKS + i) m ∙ h.bytes;
        used = h.used;
        room = h.room;
        list = h.list;
        are = ap records (take-set-le z.used b (RECORD_MARKS + i) m (let room = h.room in omega arith)) ∙ h.are;
        count = h.count;
        few = h.few;
        text = h.text;
        short = h.short;
        marks = λ j g. go j g (ℕ_discrete (RECORD_MARKS + j) (RECORD_MARKS + i));
      }
    where
      go : (j : ℕ) → j < z.count → Dec (RECORD_MARKS + j ≡ RECORD_MARKS + i) → get_or (set b (RECORD_MARKS + i) m) (RECORD_MARKS + j) 0 ≤ HIGHEST_MARKS
      go j g (yes e) = rw e (omega (arith, get_or-set_same b (RECORD_MARKS + i) m 0 (let few = h.few in let l = h.bytes in omega arith)))
      go j g (no n) = omega (arith, get_or-set_other b (RECORD_MARKS + i) (RECORD_MARKS + j) m 0 n, h.marks j g)

  -- the answers are as they were
  same_answers : take (length h.list) (record_answers_of (set b (RECORD_MARKS + i) m)) ≡ take (length h.list) (record_answers_of b)
  same_answers =
      let n : RECORD_MARKS + i ≡ RECORD_ANSWERS + (RECORD_CALLS + i) = omega arith in
      let e : record_answers_of (set b (RECORD_MARKS + i) m) ≡ set (record_answers_of b) (RECORD_CALLS + i) m = ap (λ j. record_answers_of (set b j m)) n ∙ drop-set-add RECORD_ANSWERS b (RECORD_CALLS + i) m in
      ap (take (length h.list)) e ∙ take-set-le (length h.list) (record_answers_of b) (RECORD_CALLS + i) m (let few = h.few in omega (arith, h.count))

  entries_written : entries_of w (set b (RECORD_MARKS + i) m) ≡ some (mark_behind i m (entries_with h.list (record_answers_of b) (record_marks_of b)))
  unfolding holds_written
  entries_written =
      let few = h.few in
      let long : length (record_marks_of b) ≡ length b - RECORD_MARKS = length-drop RECORD_MARKS b in
      holds_entries holds_written
      ∙ ap {B = Option (List Entry)} some
      (with_same h.list (record_answers_of (set b (RECORD_MARKS + i) m)) (record_answers_of b) (record_marks_of (set b (RECORD_MARKS + i) m)) (set (record_marks_of b) i m) same_answers
      (ap (take (length h.list)) (drop-set-add RECORD_MARKS b i m))
      ∙ sym (mark_with h.list (record_answers_of b) (record_marks_of b) i m (omega (arith, h.count)) (omega (arith, h.bytes))))

pub marks_written : (k marks : ℕ) {w b : List ℕ} {z : Size} {l : List Entry} {r : Answer} → Holds w b z → entries_of w b ≡ some l → no_such_call k l ≡ 0 → marks ≤ HIGHEST_MARKS
    → (r.number ≡ 0) × (r.value ≡ 0) → (i : ℕ) → i ≡ k - 1 → MarksSet k marks w b (set b (RECORD_MARKS + i) marks) l r
marks_written k marks {w} {b} {z} {l} {r} h q e fits n i at =
    let range = found_range k l e in
    let count = count_is h l q in
    let few = h.few in
    let none = marks_0 k marks l e fits in
    let there : i < z.count = omega (arith, range.0, range.1) in
    record {
      number_is = n.0 ∙ sym none;
      value_is = n.1;
      record_is = entries_written w b z i marks h there fits
          ∙ ap {B = Option (List Entry)} some (ap (mark_behind i marks) (sym (entries_are h l q)) ∙ ap (λ j. mark_behind j marks l) at ∙ sym (set_done k marks l none));
      written = λ _. ap (λ j. set b (RECORD_MARKS + j) marks) at;
      refused = λ no. absurd (no n.0);
      same_kept = record { tables = refl; store = drop-set-lt KEPT_STORE b (RECORD_MARKS + i) marks (omega arith) };
    }
