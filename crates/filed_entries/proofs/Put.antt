-- The record with a call more.
use Prim.Native.Nat.{ℕ, zero, suc, ◌+◌, ◌≤◌, ◌<◌}
use mathlib.Core.Path.{◌≡◌, refl, sym, ap, ap₂, ◌∙◌}
use mathlib.Core.List.{List, [], ◌∷◌, ◌++◌}
use mathlib.Core.Option.{Option, some}
use native.Mathlib.Decide.{ℕ_discrete}
use native.Mathlib.Omega.{arith}
use lib.ListN.{length, get_or, set, take, drop, length-set, length-append}
use lib.Seq.{length-take-le, take-set-le, get_or-set_same, get_or-set_other, get_or-drop}
use Rattle.memory_layout.specs.Layout.{RECORD_ANSWERS, RECORD_MARKS, RECORD_BYTES_LEN, KEPT_STORE}
use Rattle.memory_texts.specs.Over.{over}
use Rattle.memory_texts.proofs.Over.{length_over, take_over_all, drop_over, get_d_over}
use Rattle.model.proofs.Lists.{sum_snoc}
use Rattle.model_sheet.specs.Record.{Recorded, parsed, records}
use Rattle.model_sheet.proofs.Records.{records_append}
use Rattle.model_sheet.proofs.Upto.{records_size}
use Rattle.model_filed.specs.Filed.{Entry, entries_with}
use Rattle.model_filed.specs.Marks.{HIGHEST_MARKS}
use Rattle.model_filed.proofs.Filing.{single, single_records}
use Rattle.filed_record.specs.declared.Size.{Size}
use Rattle.filed_record.specs.Record.{calls_of, record_answers_of, record_marks_of, entries_of, Holds}
use Rattle.filed_record.specs.Judged.{FilesCall}
use Rattle.filed_record.specs.Promises.{KeptBehind, SameKept}
use Rattle.filed_record.proofs.Holding.{holds_entries}
use Rattle.filed_record.proofs.Calls.{files_text}
use Rattle.filed_entries.specs.Entries.{EntryPut}
use Rattle.filed_entries.proofs.Columns.{SameFirst, with_one_more}

drop_set_before : (n : ℕ) (l : List ℕ) (i x : ℕ) → i < n → drop n (set l i x) ≡ drop n l
drop_set_before n [] i x h = refl
drop_set_before zero (y ∷ l) i x h = absurd (omega arith)
drop_set_before (suc n) (y ∷ l) zero x h = refl
drop_set_before (suc n) (y ∷ l) (suc i) x h = drop_set_before n l i x (omega arith)

module _ {w b : List ℕ} {z : Size} (h : Holds w b z) {call : List ℕ} {r : Recorded} (g : FilesCall call z r) where
  -- there is room for it
  pub call_room : z.used + length call ≤ RECORD_ANSWERS
  call_room =
      let long : length (take z.used b) ≡ z.used = length-take-le z.used b (omega (arith, h.room, h.bytes)) in
      let calls = g.calls in
      let texts = g.texts in
      omega (
        arith,
        records_size (take z.used b) h.are,
        records_size call (single_records (single call g.single)),
        files_text g,
        h.count,
        h.text,
      )

  module _ {answer : ℕ} {w' b' : List ℕ} (e : EntryPut call answer z w b w' b') (same : length w' ≡ length w) where
    -- the bytes with the call behind the others
    abbrev with_call : List ℕ
    with_call = over b z.used call

    inside : z.used ≤ length b
    inside = omega (arith, h.room, h.bytes)

    -- and with its answer
    abbrev answered : List ℕ
    answered = set with_call (RECORD_ANSWERS + z.count) answer

    put_long : length b' ≡ RECORD_BYTES_LEN
    put_long =
        ap length e.bytes ∙ length-set answered (RECORD_MARKS + z.count) 0 ∙ length-set with_call (RECORD_ANSWERS + z.count) answer
        ∙ length_over b z.used call (omega (arith, call_room, h.bytes)) ∙ h.bytes

    put_calls : take (z.used + length call) b' ≡ take z.used b ++ call
    put_calls =
        ap (take (z.used + length call)) e.bytes
        ∙ take-set-le (z.used + length call) answered (RECORD_MARKS + z.count) 0 (omega (arith, call_room))
        ∙ take-set-le (z.used + length call) with_call (RECORD_ANSWERS + z.count) answer (omega (arith, call_room))
        ∙ take_over_all b z.used call inside

    -- ── place by place behind the calls ──
    put_other : (i : ℕ) → z.used + length call ≤ i → (i ≡ RECORD_ANSWERS + z.count → ⊥) → (i ≡ RECORD_MARKS + z.count → ⊥) → get_or b' i 0 ≡ get_or b i 0
    put_other i g n m =
        ap (λ l. get_or l i 0) e.bytes
        ∙ get_or-set_other answered (RECORD_MARKS + z.count) i 0 0 m
        ∙ get_or-set_other with_call (RECORD_ANSWERS + z.count) i answer 0 n
        ∙ get_d_over b z.used call inside i g

    put_answer : get_or b' (RECORD_ANSWERS + z.count) 0 ≡ answer
    put_answer =
        let calls = g.calls in
        ap (λ l. get_or l (RECORD_ANSWERS + z.count) 0) e.bytes
        ∙ get_or-set_other answered (RECORD_MARKS + z.count) (RECORD_ANSWERS + z.count) 0 0 (λ o. omega arith)
        ∙ get_or-set_same with_call (RECORD_ANSWERS + z.count) answer 0 (omega (arith, length_over b z.used call (omega (arith, call_room, h.bytes)), h.bytes))

    put_marks : get_or b' (RECORD_MARKS + z.count) 0 ≡ 0
    put_marks =
        let calls = g.calls in
        ap (λ l. get_or l (RECORD_MARKS + z.count) 0) e.bytes
        ∙ get_or-set_same answered (RECORD_MARKS + z.count) 0 0 (omega (arith, put_long, ap length e.bytes, length-set answered (RECORD_MARKS + z.count) 0))

    same_answers : SameFirst (length h.list) (record_answers_of b) (record_answers_of b')
    same_answers i o =
        let calls = g.calls in
        get_or-drop RECORD_ANSWERS b' i 0
        ∙ put_other (RECORD_ANSWERS + i) (omega (arith, call_room)) (λ q. omega (arith, h.count)) (λ q. omega (arith, h.count))
        ∙ sym (get_or-drop RECORD_ANSWERS b i 0)

    same_marks : SameFirst (length h.list) (record_marks_of b) (record_marks_of b')
    same_marks i o =
        let calls = g.calls in
        get_or-drop RECORD_MARKS b' i 0
        ∙ put_other (RECORD_MARKS + i) (omega (arith, call_room)) (λ q. omega (arith, h.count)) (λ q. omega (arith, h.count))
        ∙ sym (get_or-drop RECORD_MARKS b i 0)

    pub put_behind : calls_of w' b' ≡ calls_of w b ++ call
    put_behind = ap (λ n. take n b') e.used ∙ put_calls ∙ ap (λ n. take n b ++ call) (sym h.used)

    put_size : Size
    put_size = record { used = z.used + length call; count = z.count + 1; text = z.text + length r.text }

    put_holds : Holds w' b' put_size
    unfolding put_size
    put_holds =
        let calls = g.calls in
        record {
          words = same ∙ h.words;
          bytes = put_long;
          used = e.used;
          room = call_room;
          list = h.list ++ (parsed call ∷ []);
          are = ap records put_calls ∙ records_append (take z.used b) call h.are (single_records (single call g.single));
          count = length-append h.list (parsed call ∷ []) ∙ ap (λ n. n + 1) h.count;
          few = omega arith;
          text = sum_snoc (λ (r : Recorded). length r.text) h.list (parsed call) ∙ ap₂ (λ m n. m + n) h.text (files_text g);
          short = g.texts;
          marks = low;
        }
      where
        low : (i : ℕ) → i < z.count + 1 → get_or b' (RECORD_MARKS + i) 0 ≤ HIGHEST_MARKS
        low i o = go (ℕ_discrete i z.count)
          where
            go : Dec (i ≡ z.count) → get_or b' (RECORD_MARKS + i) 0 ≤ HIGHEST_MARKS
            go (yes q) = let at : get_or b' (RECORD_MARKS + i) 0 ≡ 0 = ap (λ j. get_or b' (RECORD_MARKS + j) 0) q ∙ put_marks in omega arith
            go (no n) =
                let calls = g.calls in
                omega (arith, put_other (RECORD_MARKS + i) (omega (arith, call_room)) (λ q. omega arith) (λ q. n (omega arith)), h.marks i (omega (arith, n)))

    pub put_entries : entries_of w' b' ≡ some (entries_with h.list (record_answers_of b) (record_marks_of b) ++ (record { call = parsed call; answer = answer; marks = 0 } ∷ []))
    unfolding put_size put_holds
    put_entries =
        let at : (a : ℕ) → get_or (drop a b') (length h.list) 0 ≡ get_or b' (a + z.count) 0 = λ a. get_or-drop a b' (length h.list) 0 ∙ ap (λ n. get_or b' (a + n) 0) h.count in
        holds_entries put_holds
        ∙ ap {B = Option (List Entry)} some (with_one_more h.list (parsed call) (record_answers_of b) (record_marks_of b) (record_answers_of b') (record_marks_of b') same_answers same_marks
        ∙ ap₂ (λ n m. entries_with h.list (record_answers_of b) (record_marks_of b) ++ (record { call = parsed call; answer = n; marks = m } ∷ []))
        (at RECORD_ANSWERS ∙ put_answer) (at RECORD_MARKS ∙ put_marks))

    pub put_kept : (n : ℕ) → n ≡ z.count + 1 → KeptBehind z.count n w b w' b'
    put_kept n q =
        let calls = g.calls in
        record {
          calls = λ i h₁ h₂ h₃. put_other i (omega (arith, e.used)) (λ o. omega arith) (λ o. omega arith);
          answers = λ i h₁ h₂ h₃. put_other i (omega (arith, call_room)) (λ o. omega arith) (λ o. omega arith);
          marks = λ i h₁ h₂ h₃. put_other i (omega (arith, call_room)) (λ o. omega arith) (λ o. omega arith);
        }

    -- the kept desk stands behind all of it
    pub put_same_kept : SameKept w b w' b'
    put_same_kept =
        let calls = g.calls in
        record {
          tables = e.tables;
          store =
              ap (drop KEPT_STORE) e.bytes
              ∙ drop_set_before KEPT_STORE answered (RECORD_MARKS + z.count) 0 (omega arith)
              ∙ drop_set_before KEPT_STORE with_call (RECORD_ANSWERS + z.count) answer (omega arith)
              ∙ drop_over b z.used call inside KEPT_STORE (omega (arith, call_room));
        }
