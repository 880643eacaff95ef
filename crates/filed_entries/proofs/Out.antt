-- The record with a call less, and the answers of the others written anew.
use Prim.Native.Nat.{ℕ, zero, suc, ◌+◌, ◌-◌, ◌≤◌, ◌<◌}
use mathlib.Core.Path.{◌≡◌, refl, sym, ap, ap₂, ◌∙◌}
use mathlib.Core.List.{List, [], ◌∷◌, ◌++◌}
use mathlib.Core.Option.{Option, some}
use native.Mathlib.Numerals.{add-one}
use native.Mathlib.Omega.{arith}
use lib.ListN.{length, get_or, take, drop, length-drop, take-append-drop}
use lib.Seq.{length-take-le, take-take, drop-drop, get_or-take, get_or-drop}
use Rattle.memory_layout.specs.Layout.{RECORD_ANSWERS, RECORD_MARKS, KEPT_STORE}
use Rattle.memory_texts.specs.Over.{over}
use Rattle.memory_texts.proofs.Over.{length_over, take_over_all, drop_over, take_before, drop_at_over, get_d_over, getD_before}
use Rattle.model_sheet.specs.Record.{Recorded, records, text_size}
use Rattle.model_sheet.proofs.Records.{records_append}
use Rattle.model_filed.specs.Filed.{Entry, entries_with, MOST_CALLS, without}
use Rattle.model_filed.specs.Marks.{HIGHEST_MARKS}
use Rattle.model_filed.proofs.Filing.{with_front}
use Rattle.sheet_records.specs.Found.{Counted}
use Rattle.filed_record.specs.declared.Size.{Size}
use Rattle.filed_record.specs.Record.{record_marks_of, entries_of, Holds}
use Rattle.filed_record.specs.Promises.{KeptBehind, SameKept}
use Rattle.filed_record.proofs.Holding.{holds_entries}
use Rattle.filed_entries.specs.Entries.{EntryOut}
use Rattle.filed_entries.proofs.Columns.{less_low}

-- ── a list without the element behind its first i ──
less_text : (i : ℕ) (l : List Recorded) → text_size (take i l ++ drop (suc i) l) ≤ text_size l
less_text zero [] = omega arith
less_text zero (r ∷ l) = omega arith
less_text (suc i) [] = omega arith
less_text (suc i) (r ∷ l) = omega (arith, less_text i l)

less_long : {A : Type 0} (i : ℕ) (l : List A) → i < length l → length (take i l ++ drop (suc i) l) + 1 ≡ length l
less_long zero [] h = absurd (omega arith)
less_long zero (r ∷ l) h = omega arith
less_long (suc i) [] h = absurd (omega arith)
less_long (suc i) (r ∷ l) h = omega (arith, less_long i l (omega arith))

-- a part of a part
take_drop : (n m : ℕ) (l : List ℕ) → drop n (take m l) ≡ take (m - n) (drop n l)
take_drop zero m l = ap (λ k. take k l) (let e : m ≡ m - 0 = omega arith in e)
take_drop (suc n) zero l = ap (λ k. take k (drop (suc n) l)) (let e : 0 ≡ 0 - suc n = omega arith in e)
take_drop (suc n) (suc m) [] = nothing (suc m - suc n)
  where
    nothing : (k : ℕ) → [] ≡ take {A = ℕ} k []
    nothing zero = refl
    nothing (suc k) = refl
take_drop (suc n) (suc m) (x ∷ l) = take_drop n m l ∙ ap (λ k. take k (drop n l)) (let e : m - n ≡ suc m - suc n = omega arith in e)

-- a part of what is written over the rest of a list
over_cons : (x : ℕ) (d : List ℕ) (n : ℕ) (xs : List ℕ) → over (x ∷ d) (suc n) xs ≡ x ∷ over d n xs
unfolding over
over_cons x d n xs = ap (λ k. x ∷ (take n d ++ (xs ++ drop k (x ∷ d)))) (let e : suc n + length xs ≡ suc (n + length xs) = omega arith in e)

drop_within : (a i : ℕ) (d xs : List ℕ) → a + i ≤ length d → drop a (over d (a + i) xs) ≡ over (drop a d) i xs
drop_within zero i d xs h = ap (λ n. over d n xs) (let e : 0 + i ≡ i = omega arith in e)
drop_within (suc a) i [] xs h = absurd (omega arith)
drop_within (suc a) i (x ∷ d) xs h =
    ap (λ n. drop (suc a) (over (x ∷ d) n xs)) (let e : suc a + i ≡ suc (a + i) = omega arith in e)
    ∙ ap (drop (suc a)) (over_cons x d (a + i) xs) ∙ drop_within a i d xs (omega arith)

module _ {w b : List ℕ} {z : Size} (h : Holds w b z) {i : ℕ} (few : i < z.count) {w₁ b₁ : List ℕ} {u : ℕ} (e : EntryOut i z w b w₁ b₁ u) where
  -- the calls that are left
  abbrev pub others : List Recorded
  others = without (i + 1) h.list

  others_as : others ≡ take i h.list ++ drop (suc i) h.list
  others_as = let p : i + 1 - 1 ≡ i = omega arith in ap₂ (λ j k. take j h.list ++ drop k h.list) p (add-one i)

  pub others_count : length others + 1 ≡ z.count
  others_count = ap (λ (l : List Recorded). length l + 1) others_as ∙ less_long i h.list (omega (arith, h.count)) ∙ h.count

  inside : z.used ≤ length b
  inside = omega (arith, h.room, h.bytes)

  next_low : e.next ≤ z.used
  next_low = let n = e.located.within in omega (arith, length-take-le z.used b inside)

  -- the bytes that have moved
  abbrev moved : List ℕ
  moved = take (z.used - e.next) (drop e.next b)

  moved_long : length moved ≡ z.used - e.next
  moved_long = length-take-le (z.used - e.next) (drop e.next b) (omega (arith, next_low, inside, length-drop e.next b))

  at_low : e.at ≤ length b
  at_low = let s = e.located.some_bytes in omega (arith, next_low, inside)

  left_as : u ≡ e.at + length moved
  left_as = let s = e.located.some_bytes in omega (arith, moved_long, next_low, e.left)

  pub out_room : u ≤ RECORD_ANSWERS
  out_room = omega (arith, e.left, h.room)

  -- ── the calls closed, then the marks ──
  middle_as : e.middle ≡ over b e.at moved
  middle_as = e.closed

  middle_long : length e.middle ≡ length b
  middle_long = ap length middle_as ∙ length_over b e.at moved (let s = e.located.some_bytes in omega (arith, moved_long, next_low, inside))

  -- the marks of the calls, as they were
  abbrev pub marks_before : List ℕ
  marks_before = take z.count (record_marks_of b)

  pub before_long : length marks_before ≡ z.count
  before_long = length-take-le z.count (record_marks_of b) (omega (arith, h.few, h.bytes, length-drop RECORD_MARKS b))

  middle_marks : record_marks_of e.middle ≡ record_marks_of b
  middle_marks = ap (drop RECORD_MARKS) middle_as ∙ drop_over b e.at moved at_low RECORD_MARKS (let s = e.located.some_bytes in omega (arith, moved_long, next_low, h.room))

  -- those that have moved
  abbrev shifted : List ℕ
  shifted = take (RECORD_MARKS + z.count - (RECORD_MARKS + (i + 1))) (drop (RECORD_MARKS + (i + 1)) e.middle)

  shifted_as : shifted ≡ drop (i + 1) marks_before
  shifted_as =
      let n : RECORD_MARKS + z.count - (RECORD_MARKS + (i + 1)) ≡ z.count - (i + 1) = omega arith in
      ap (λ k. take k (drop (RECORD_MARKS + (i + 1)) e.middle)) n
      ∙ ap (take (z.count - (i + 1))) (sym (drop-drop (i + 1) RECORD_MARKS e.middle) ∙ ap (drop (i + 1)) middle_marks)
      ∙ sym (take_drop (i + 1) z.count (record_marks_of b))

  shifted_long : length shifted ≡ z.count - (i + 1)
  shifted_long = ap length shifted_as ∙ length-drop (i + 1) marks_before ∙ ap (λ n. n - (i + 1)) before_long

  marks_inside : RECORD_MARKS + i ≤ length e.middle
  marks_inside = omega (arith, middle_long, h.bytes, h.few)

  out_as : b₁ ≡ over e.middle (RECORD_MARKS + i) shifted
  out_as = e.marks

  out_long : length b₁ ≡ length b
  out_long = ap length out_as ∙ length_over e.middle (RECORD_MARKS + i) shifted (omega (arith, shifted_long, middle_long, h.bytes, h.few)) ∙ middle_long

  -- the marks that are left
  abbrev pub marks_left : List ℕ
  marks_left = without (i + 1) marks_before

  marks_left_as : marks_left ≡ take i marks_before ++ drop (suc i) marks_before
  marks_left_as = let p : i + 1 - 1 ≡ i = omega arith in ap₂ (λ j k. take j marks_before ++ drop k marks_before) p (add-one i)

  pub left_long : length marks_left ≡ length others
  left_long = omega (arith, ap length marks_left_as, less_long i marks_before (omega (arith, before_long)), before_long, others_count)

  out_marks : take (length others) (record_marks_of b₁) ≡ marks_left
  out_marks =
      let p : i + 1 - 1 ≡ i = omega arith in
      let n : length others ≡ i + length shifted = omega (arith, others_count, shifted_long) in
      let inner : i ≤ length (record_marks_of b) = omega (arith, length-drop RECORD_MARKS b, h.bytes, h.few) in
      ap₂ take n (ap (drop RECORD_MARKS) out_as ∙ drop_within RECORD_MARKS i e.middle shifted marks_inside ∙ ap (λ l. over l i shifted) middle_marks)
      ∙ take_over_all (record_marks_of b) i shifted inner
      ∙ ap₂ (λ x y. x ++ y) (sym (take-take i z.count (record_marks_of b) (omega arith))) shifted_as
      ∙ ap (λ j. take j marks_before ++ drop (i + 1) marks_before) (sym p)

  pub out_calls : records (take u b₁) ≡ some others
  out_calls =
      let p : i + 1 - 1 ≡ i = omega arith in
      let s = e.located.some_bytes in
      let front : take e.at (take z.used b) ≡ take e.at b = take-take e.at z.used b (omega (arith, next_low)) in
      let back : drop e.next (take z.used b) ≡ moved = take_drop e.next z.used b in
      ap (λ l. records (take u l)) out_as
      ∙ ap records (take_before e.middle (RECORD_MARKS + i) shifted marks_inside u (omega (arith, out_room)))
      ∙ ap₂ (λ n l. records (take n l)) left_as middle_as
      ∙ ap records (take_over_all b e.at moved at_low)
      ∙ ap₂ (λ x y. records (x ++ y)) (sym front) (sym back)
      ∙ records_append (take e.at (take z.used b)) (drop e.next (take z.used b)) (e.located.before_it h.list h.are) (e.located.behind_it h.list h.are)
      ∙ ap (λ n. some (take n h.list ++ drop (i + 1) h.list)) (sym p)

  -- what the run of the others asks for
  pub out_counted : (n : ℕ) → n ≡ z.count - 1 → Counted (take u b₁) MOST_CALLS n
  out_counted n q = record { list = others; are = out_calls; count = omega (arith, others_count); few = omega (arith, h.few) }

  -- the kept desk stands behind all calls and marks
  pub out_same_kept : SameKept w b w₁ b₁
  out_same_kept = record {
    tables = e.tables;
    store =
        ap (drop KEPT_STORE) out_as ∙ drop_over e.middle (RECORD_MARKS + i) shifted marks_inside KEPT_STORE (omega (arith, shifted_long, h.few))
        ∙ ap (drop KEPT_STORE) middle_as ∙ drop_over b e.at moved at_low KEPT_STORE (omega (arith, moved_long, next_low, h.room));
  }

  -- behind the calls as they were every byte is as it was, up to the marks, and behind the marks as they were
  out_kept : (j : ℕ) → z.used ≤ j → j < RECORD_MARKS → get_or b₁ j 0 ≡ get_or b j 0
  out_kept j g m =
      ap (λ l. get_or l j 0) out_as ∙ getD_before e.middle (RECORD_MARKS + i) shifted marks_inside j (omega arith)
      ∙ ap (λ l. get_or l j 0) middle_as ∙ get_d_over b e.at moved at_low j (let s = e.located.some_bytes in omega (arith, moved_long, next_low))

  out_kept_marks : (j : ℕ) → RECORD_MARKS + z.count ≤ j → get_or b₁ j 0 ≡ get_or b j 0
  out_kept_marks j g =
      ap (λ l. get_or l j 0) out_as ∙ get_d_over e.middle (RECORD_MARKS + i) shifted marks_inside j (omega (arith, shifted_long))
      ∙ ap (λ l. get_or l j 0) middle_as ∙ get_d_over b e.at moved at_low j (let s = e.located.some_bytes in omega (arith, moved_long, next_low, h.room))

  module _ (ns : List ℕ) {b₂ : List ℕ} (written : b₂ ≡ over b₁ RECORD_ANSWERS ns) (long : length ns ≡ length others) (same : length w₁ ≡ length w) where
    fits : RECORD_ANSWERS + length ns ≤ length b₁
    fits = omega (arith, others_count, h.few, out_long, h.bytes)

    low : RECORD_ANSWERS ≤ length b₁
    low = omega (arith, fits)

    new_marks : record_marks_of b₂ ≡ record_marks_of b₁
    new_marks = ap (drop RECORD_MARKS) written ∙ drop_over b₁ RECORD_ANSWERS ns low RECORD_MARKS (omega (arith, others_count, h.few))

    new_low : (j : ℕ) → j < z.count - 1 → get_or b₂ (RECORD_MARKS + j) 0 ≤ HIGHEST_MARKS
    new_low j g =
        let first : j < length others = omega (arith, others_count) in
        let is : get_or b₂ (RECORD_MARKS + j) 0 ≡ get_or (take i marks_before ++ drop (suc i) marks_before) j 0 =
        sym (get_or-drop RECORD_MARKS b₂ j 0) ∙ ap (λ l. get_or l j 0) new_marks ∙ sym (get_or-take (length others) (record_marks_of b₁) j 0 first)
        ∙ ap (λ l. get_or l j 0) (out_marks ∙ marks_left_as) in
        omega (
          arith,
          less_low i marks_before HIGHEST_MARKS
              (λ k q. let c : k < z.count = omega (arith, before_long) in omega (arith, get_or-take z.count (record_marks_of b) k 0 c, get_or-drop RECORD_MARKS b k 0, h.marks k c)) j
              (omega (arith, ap length marks_left_as, left_long)),
        )

    new_size : Size
    new_size = record { used = u; count = z.count - 1; text = text_size others }

    new_holds : Holds w₁ b₂ new_size
    unfolding new_size
    new_holds =
        record {
          words = same ∙ h.words;
          bytes = ap length written ∙ length_over b₁ RECORD_ANSWERS ns fits ∙ out_long ∙ h.bytes;
          used = e.used;
          room = out_room;
          list = others;
          are = ap (λ l. records (take u l)) written ∙ ap records (take_before b₁ RECORD_ANSWERS ns low u out_room) ∙ out_calls;
          count = omega (arith, others_count);
          few = omega (arith, h.few);
          text = refl;
          short = omega (arith, less_text i h.list, ap text_size others_as, h.text, h.short);
          marks = new_low;
        }

    pub new_entries : entries_of w₁ b₂ ≡ some (entries_with others ns marks_left)
    unfolding new_size new_holds
    new_entries =
        holds_entries new_holds
        ∙ ap {B = Option (List Entry)} some
        (ap₂ (entries_with others) (ap (drop RECORD_ANSWERS) written ∙ drop_at_over b₁ RECORD_ANSWERS ns low)
        (new_marks ∙ sym (take-append-drop (length others) (record_marks_of b₁)) ∙ ap (λ l. l ++ drop (length others) (record_marks_of b₁)) out_marks)
        ∙ with_front others ns (drop (RECORD_ANSWERS + length ns) b₁) marks_left (drop (length others) (record_marks_of b₁)) long left_long)

    pub new_kept : (n : ℕ) → n ≡ length others → KeptBehind z.count n w b w₁ b₂
    new_kept n q =
        let behind : (j : ℕ) → RECORD_ANSWERS + length ns ≤ j → get_or b₂ j 0 ≡ get_or b₁ j 0 = λ j g. ap (λ l. get_or l j 0) written ∙ get_d_over b₁ RECORD_ANSWERS ns low j g in
        record {
          calls = λ j h₁ h₂ h₃. ap (λ l. get_or l j 0) written ∙ getD_before b₁ RECORD_ANSWERS ns low j h₃ ∙ out_kept j (omega (arith, h.used)) (omega arith);
          answers = λ j h₁ h₂ h₃. behind j (omega (arith, others_count)) ∙ out_kept j (omega (arith, h.room)) h₃;
          marks = λ j h₁ h₂ h₃. behind j (omega (arith, others_count, h.few)) ∙ out_kept_marks j h₁;
        }

    -- and behind all answers
    pub new_same_kept : SameKept w b w₁ b₂
    new_same_kept = record {
      tables = e.tables;
      store = ap (drop KEPT_STORE) written ∙ drop_over b₁ RECORD_ANSWERS ns low KEPT_STORE (omega (arith, long, others_count, h.few)) ∙ out_same_kept.store;
    }
