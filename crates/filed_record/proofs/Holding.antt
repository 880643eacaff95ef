-- Which memory holds a record.
use Prim.Native.Nat.{ℕ, ◌+◌, ◌-◌, ◌≤◌, ◌<◌}
use mathlib.Core.Path.{◌≡◌, refl, sym, ap, ◌∙◌}
use mathlib.Core.Bool.{Bool, true, false, cond, and-false}
use mathlib.Core.List.{List}
use mathlib.Core.Option.{Option, none, some, bind}
use lib.Dec.{eqb}
use lib.ListN.{length, get_or, take, drop}
use lib.Seq.{get_or-drop}
use borrow.Author.Tests.{le-leb, lt-leb, eq-eqb, ne_eqb}
use native.Mathlib.Omega.{arith}
use Rattle.memory_layout.specs.Layout.{RECORD_ANSWERS, RECORD_MARKS, RECORD_BYTES_LEN, RECORD_WORDS_LEN}
use Rattle.model_sheet.specs.Record.{Recorded, records, text_size}
use Rattle.model_filed.specs.Filed.{Entry, entries_with, MOST_CALLS, MOST_TEXT, within_bounds}
use Rattle.model_filed.specs.Marks.{HIGHEST_MARKS, marks_fit}
use Rattle.model_filed.proofs.Filing.{true_bounds, many_bounds, long_bounds, fit_with, unfit_with}
use Rattle.sheet_records.specs.Found.{Measured}
use Rattle.filed_record.specs.declared.Size.{Size}
use Rattle.filed_record.specs.Record.{used_of, calls_of, record_answers_of, record_marks_of, shaped, bounded, marked, entries_of, Holds}

-- the bytes in use, as a part that is lent on
pub part_is : (w b : List ℕ) (u : ℕ) → u ≡ used_of w → take (u - 0) (drop 0 b) ≡ calls_of w b
part_is w b u e = ap (λ n. take n b) (let n : u - 0 ≡ used_of w = omega arith in n)

both_none : {A : Type 0} (t : Bool) → ◌≡◌ {A = Option A} (cond t none none) none
both_none true = refl
both_none false = refl

-- the entries by what the tests say
module _ (w b : List ℕ) where
  unshaped : shaped w b ≡ false → entries_of w b ≡ none
  unfolding entries_of
  unshaped e = rw e refl

  unread : bind (records (calls_of w b)) bounded ≡ none → entries_of w b ≡ none
  unfolding entries_of bind
  unread e = ap (λ o. cond (shaped w b) (bind o (marked b)) none) e ∙ both_none (shaped w b)

  entries_read : {l : List Recorded} → shaped w b ≡ true → bind (records (calls_of w b)) bounded ≡ some l → marks_fit (entries_with l (record_answers_of b) (record_marks_of b)) ≡ true
      → entries_of w b ≡ some (entries_with l (record_answers_of b) (record_marks_of b))
  unfolding entries_of bind
  entries_read e h m = rw (e, h, m) refl

  read : {l : List Recorded} → records (calls_of w b) ≡ some l → within_bounds l ≡ true → bind (records (calls_of w b)) bounded ≡ some l
  unfolding bind
  read {l} e h = ap (λ o. bind o bounded) e ∙ rw h refl

  -- ── no record ──
  pub other_words : (length w ≡ RECORD_WORDS_LEN → ⊥) → entries_of w b ≡ none
  unfolding shaped
  other_words h = unshaped (rw (ne_eqb (length w) RECORD_WORDS_LEN h) refl)

  pub other_bytes : (length b ≡ RECORD_BYTES_LEN → ⊥) → entries_of w b ≡ none
  unfolding shaped
  other_bytes h = unshaped (rw (ne_eqb (length b) RECORD_BYTES_LEN h) (and-false (eqb (length w) RECORD_WORDS_LEN)))

  pub used_past : RECORD_ANSWERS < used_of w → entries_of w b ≡ none
  unfolding shaped
  used_past h = unshaped (rw (lt-leb (used_of w) RECORD_ANSWERS h, and-false (eqb (length b) RECORD_BYTES_LEN)) (and-false (eqb (length w) RECORD_WORDS_LEN)))

  beyond : ((l : List Recorded) → records (calls_of w b) ≡ some l → within_bounds l ≡ false) → entries_of w b ≡ none
  unfolding bind
  beyond h = unread (go (records (calls_of w b)) refl)
    where
      go : (o : Option (List Recorded)) → records (calls_of w b) ≡ o → bind o bounded ≡ none
      go none e = refl
      go (some l) e = rw (h l e) refl

  pub no_list : ((l : List Recorded) → records (calls_of w b) ≡ some l → MOST_CALLS < length l) → entries_of w b ≡ none
  no_list h = beyond (λ l e. many_bounds l (h l e))

  pub much_text : {n m : ℕ} → Measured (calls_of w b) MOST_CALLS n m → MOST_TEXT < m → entries_of w b ≡ none
  much_text x h = beyond (λ l e.
      let same : x.counted.list ≡ l = alike x.counted.are e in
      long_bounds l (omega (arith, x.text, ap text_size same)))
    where
      alike : {o : Option (List Recorded)} {l m : List Recorded} → o ≡ some l → o ≡ some m → l ≡ m
      alike p q = cc

  -- marks above the highest
  pub high_marks : {n m : ℕ} (i : ℕ) → Measured (calls_of w b) MOST_CALLS n m → m ≤ MOST_TEXT → i < n → HIGHEST_MARKS < get_or b (RECORD_MARKS + i) 0 → entries_of w b ≡ none
  unfolding entries_of bind
  high_marks i x short h g =
      let l = x.counted.list in
      let r : bind (records (calls_of w b)) bounded ≡ some l =
      read x.counted.are (true_bounds l (record { few = omega (arith, x.counted.count, x.counted.few); text = omega (arith, x.text) })) in
      let high : marks_fit (entries_with l (record_answers_of b) (record_marks_of b)) ≡ false =
      unfit_with l (record_answers_of b) (record_marks_of b) i (omega (arith, x.counted.count)) (omega (arith, get_or-drop RECORD_MARKS b i 0)) in
      ap (λ o. cond (shaped w b) (bind o (marked b)) none) r ∙ ap (λ t. cond (shaped w b) (cond t (some (entries_with l (record_answers_of b) (record_marks_of b))) none) none) high
      ∙ both_none (shaped w b)

-- ── a record ──
pub holds_of : (w b : List ℕ) (u : ℕ) {n m : ℕ} → length w ≡ RECORD_WORDS_LEN → length b ≡ RECORD_BYTES_LEN → u ≡ used_of w → u ≤ RECORD_ANSWERS
    → Measured (calls_of w b) MOST_CALLS n m → m ≤ MOST_TEXT → ((i : ℕ) → i < n → get_or b (RECORD_MARKS + i) 0 ≤ HIGHEST_MARKS)
    → Holds w b (record { used = u; count = n; text = m })
holds_of w b u hw hb e room x short marks =
    record {
      words = hw;
      bytes = hb;
      used = sym e;
      room = room;
      list = x.counted.list;
      are = ap (λ i. records (take i b)) e ∙ x.counted.are;
      count = x.counted.count;
      few = x.counted.few;
      text = x.text;
      short = short;
      marks = marks;
    }

pub holds_entries : {w b : List ℕ} {z : Size} (h : Holds w b z) → entries_of w b ≡ some (entries_with h.list (record_answers_of b) (record_marks_of b))
unfolding shaped
holds_entries {w} {b} {z} h =
    let u = h.used in
    let few = h.few in
    let short = h.short in
    entries_read w b
    (rw (
      eq-eqb (length w) RECORD_WORDS_LEN h.words,
      eq-eqb (length b) RECORD_BYTES_LEN h.bytes,
      le-leb (used_of w) RECORD_ANSWERS (let r = h.room in omega arith),
    ) refl)
    (read w b (ap (λ i. records (take i b)) u ∙ h.are) (true_bounds h.list (record { few = omega (arith, h.count); text = omega (arith, h.text) })))
    (fit_with h.list (record_answers_of b) (record_marks_of b) (λ i g. omega (arith, get_or-drop RECORD_MARKS b i 0, h.marks i (omega (arith, h.count)))))

-- the entries are these alone
pub entries_are : {w b : List ℕ} {z : Size} (h : Holds w b z) (l : List Entry) → entries_of w b ≡ some l → l ≡ entries_with h.list (record_answers_of b) (record_marks_of b)
entries_are h l e = let q = holds_entries h in cc

pub holds_some : {X : Type 0} {w b : List ℕ} {z : Size} → Holds w b z → entries_of w b ≡ none → X
holds_some h e = let q = holds_entries h in let z : ◌≡◌ {A = ℕ} 0 1 = cc in absurd (omega arith)
