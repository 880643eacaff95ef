-- The bytes of a reading are those of the model's entry.
use Prim.Native.Nat.{ℕ, suc, zero, ◌-◌, ◌≤◌, ◌<◌}
use mathlib.Core.Path.{◌≡◌, refl, sym, ap, subst, ◌∙◌}
use mathlib.Core.Bool.{Bool, true, false}
use mathlib.Core.List.{List, [], ◌∷◌, ◌++◌, append_assoc, append-nil}
use mathlib.Core.Option.{some}
use native.Mathlib.Decide.{dec_le}
use native.Mathlib.Omega.{arith}
use lib.ListN.{length, get_or, take, drop, length-take}
use lib.Seq.{get_or-drop, take-take}
use borrow.Author.Tests.{le-leb, lt-leb}
use Rattle.utf8.specs.Chars.{nil, cons}
use Rattle.memory_layout.specs.Layout.{RECORD_ANSWERS, RECORD_MARKS}
use Rattle.memory.specs.declared.Answer.{Answer}
use Rattle.memory_texts.proofs.Over.{part_kept}
use Rattle.model.specs.Call.{Shown, refusal, into}
use Rattle.model_sheet.specs.BigEndian.{Bytes}
use Rattle.model_sheet.specs.Record.{Recorded, encode, encode_all, records}
use Rattle.model_sheet.proofs.Lists.{all_take, all_drop}
use Rattle.model_sheet.proofs.Records.{encode_records}
use Rattle.model_filed.specs.Filed.{Entry, no_such_call}
use Rattle.model_filed.specs.Marks.{show_entry}
use Rattle.model_filed.proofs.Filing.{with_length, found_range, not_found}
use Rattle.model_filed.proofs.Marks.{entry_none, entry_some, one_with, show_none, show_some}
use Rattle.filed_record.specs.declared.Size.{Size}
use Rattle.filed_record.specs.Record.{record_answers_of, record_marks_of, entries_of, Holds}
use Rattle.filed_record.specs.Marks.{EntryShown}
use Rattle.filed_record.proofs.Holding.{entries_are}
use Rattle.filed_entries.specs.Places.{Behind, Located}
use Rattle.filed_marks.specs.Readings.{reading_of, from_to, read_bytes, size_of, ReadingPut, ShownAt}
use Rattle.filed_marks.proofs.Readings.{reading_length}

-- ── the place of a call, by the part of the bytes that is lent ──
module _ (used i : ℕ) (b : List ℕ) where
  lent_as : take (used - 0) b ≡ take used b
  lent_as = ap (λ n. take n b) (let n : used - 0 ≡ used = omega arith in n)

  pub behind_lent : Behind (take used b) i → Behind (take (used - 0) b) i
  behind_lent h = subst (λ s. Behind s i) (sym lent_as) h

  module _ (at next : ℕ) (l : Located (take (used - 0) b) i at next) where
    pub within_bytes : next ≤ length b
    within_bytes = omega (arith, l.within, length-take (used - 0) b)

    module _ (marked : Bool) (n : ℕ) (is : n ≡ size_of marked at next) (out : List ℕ) where
      pub shown_short : {r : Answer} → length out < n → (r.number ≡ 14) × (r.value ≡ 0) → ShownAt marked used i b out out r
      shown_short {r} h e =
          record {
            at = at;
            next = next;
            located = subst (λ s. Located s i at next) lent_as l;
            short = λ _. (e.0, e.1, refl);
            whole = λ g. absurd (omega arith);
          }

      pub shown_whole : {out' : List ℕ} {r : Answer} → n ≤ length out → (r.number ≡ 0) × (r.value ≡ n) → ReadingPut marked at next i b out out' → ShownAt marked used i b out out' r
      shown_whole h e p =
          record {
            at = at;
            next = next;
            located = subst (λ s. Located s i at next) lent_as l;
            short = λ g. absurd (omega arith);
            whole = λ _. (e.0, e.1 ∙ is, p);
          }

-- ── the call at a place ──
pub behind_held : {w b : List ℕ} {z : Size} → Holds w b z → (i : ℕ) → i < z.count → Behind (take z.used b) i
behind_held h i g = record { list = h.list; are = h.are; more = omega (arith, h.count) }

pub bytes_of : (s : List ℕ) → ((i : ℕ) → get_or s i 0 < 256) → Bytes s
bytes_of [] f = nil
bytes_of (x ∷ s) f = cons (f 0) (bytes_of s (λ i. f (suc i)))

one_of : (l : List Recorded) (i : ℕ) → i < length l → (r : Recorded) × (take 1 (drop i l) ≡ r ∷ [])
one_of [] i h = absurd (omega arith)
one_of (r ∷ l) zero h = (r, refl)
one_of (r ∷ l) (suc i) h = one_of l i (omega arith)

encode_one : (r : Recorded) → encode_all (r ∷ []) ≡ encode r
unfolding encode_all
encode_one r = append-nil (encode r)

-- a call with its answer and its marks
abbrev entry_with : Recorded → ℕ → List ℕ → Entry
entry_with r i b = record { call = r; answer = get_or (record_answers_of b) i 0; marks = get_or (record_marks_of b) i 0 }

module _ {w b : List ℕ} {z : Size} (h : Holds w b z) (bytes : Bytes b) {i at next : ℕ} (l : Located (take z.used b) i at next) (r : Recorded) (one : take 1 (drop i h.list) ≡ r ∷ []) where
  call_bytes : encode r ≡ from_to at next b
  call_bytes =
      let same : take (next - at) (drop at (take z.used b)) ≡ from_to at next b =
      part_kept (next - at) at z.used b (take z.used b) (take-take z.used z.used b (omega arith)) (omega (arith, l.within, length-take z.used b)) in
      let e : records (from_to at next b) ≡ some (take 1 (drop i h.list)) = ap records (sym same) ∙ l.it h.list h.are in
      sym (encode_one r) ∙ ap encode_all (sym one) ∙ encode_records (all_take (next - at) (all_drop at bytes)) e

  -- its reading, by the places of its answer and its marks
  reading_is : (marked : Bool) → reading_of marked (entry_with r i b) ≡ read_bytes marked at next i b
  reading_is false = rw (call_bytes, get_or-drop RECORD_ANSWERS b i 0)
  reading_is true = rw (append_assoc, call_bytes, get_or-drop RECORD_ANSWERS b i 0, get_or-drop RECORD_MARKS b i 0)

-- ── what is shown ──
module _ (reading : Entry → List ℕ) (k : ℕ) {out out' : List ℕ} {es : List Entry} {r : Answer} where
  shown_as : (s : Shown) → show_entry reading k (length out) es ≡ s → r.number ≡ s.number → r.value ≡ s.value → out' ≡ s.written ++ drop (length s.written) out
      → EntryShown reading k out out' es r
  shown_as s e n v o = record { number_is = rw e n; value_is = rw e v; written = rw e o }

-- 17
pub shown_none : (marked : Bool) (k : ℕ) {out : List ℕ} {es : List Entry} {r : Answer} {n : ℕ} → no_such_call k es ≡ n → (n ≡ 0 → ⊥) → (r.number ≡ n) × (r.value ≡ 0)
    → EntryShown (reading_of marked) k out out es r
shown_none marked k {out} {es} e h n =
    let none = not_found k es (λ z. h (sym e ∙ z)) in
    shown_as (reading_of marked) k (refusal 17) (show_none (reading_of marked) k (length out) es (entry_none k es none)) (n.0 ∙ sym e ∙ none) n.1 refl

module _ {w b : List ℕ} {z : Size} (h : Holds w b z) (bytes : Bytes b) (k : ℕ) {es : List Entry} (q : entries_of w b ≡ some es) (found : no_such_call k es ≡ 0)
    {marked : Bool} {i : ℕ} (at : i ≡ k - 1) {out out' : List ℕ} {r : Answer} (s : ShownAt marked z.used i b out out' r) where
  within : i < length h.list
  within =
      let range = found_range k es found in
      omega (arith, range.0, range.1, ap length (entries_are h es q), with_length h.list (record_answers_of b) (record_marks_of b))

  call : Recorded
  call = (one_of h.list i within).0

  is_call : take 1 (drop i h.list) ≡ call ∷ []
  unfolding call
  is_call = (one_of h.list i within).1

  -- the model's entry with this number
  shows : show_entry (reading_of marked) k (length out) es ≡ into (length out) (read_bytes marked s.at s.next i b)
  shows =
      let e = entry_with call i b in
      let one : take 1 (drop (k - 1) es) ≡ e ∷ [] =
      ap (λ j. take 1 (drop j es)) (sym at) ∙ ap (λ l. take 1 (drop i l)) (entries_are h es q) ∙ one_with h.list (record_answers_of b) (record_marks_of b) i call is_call in
      show_some (reading_of marked) k (length out) es e (entry_some k es e found one) ∙ ap (into (length out)) (reading_is h bytes s.located call is_call marked)

  long : length (read_bytes marked s.at s.next i b) ≡ size_of marked s.at s.next
  long = reading_length marked s.at s.next i b (omega (arith, s.located.within, length-take z.used b))

  pub shown_entry : {asked : Bool} → marked ≡ asked → EntryShown (reading_of asked) k out out' es r
  shown_entry e = subst (λ a. EntryShown (reading_of a) k out out' es r) e (go (dec_le (size_of marked s.at s.next) (length out)))
    where
      t : List ℕ
      t = read_bytes marked s.at s.next i b

      go : Dec (size_of marked s.at s.next ≤ length out) → EntryShown (reading_of marked) k out out' es r
      go (yes g) =
          let o = s.whole g in
          shown_as (reading_of marked) k (record { number = 0; value = length t; written = t }) (shows ∙ rw (le-leb (length t) (length out) (omega (arith, long)))) o.0 (o.1 ∙ sym long)
          (o.2 ∙ ap (λ n. t ++ drop n out) (sym long))
      go (no g) =
          let o = s.short (omega (arith, g)) in
          shown_as (reading_of marked) k (refusal 14) (shows ∙ rw (lt-leb (length t) (length out) (omega (arith, long, g)))) o.0 o.1 o.2
