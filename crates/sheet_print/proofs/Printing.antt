-- The lines and the text of a run, one behind the other.
use Prim.Native.Nat.{ℕ, suc, zero, ◌+◌, ◌*◌, ◌-◌, ◌≤◌, ◌<◌}
use mathlib.Core.Path.{◌≡◌, refl, sym, ap, ap₂, subst, ◌∙◌}
use mathlib.Core.List.{List, [], ◌++◌, append_assoc, append-nil}
use mathlib.Core.Option.{some}
use lib.ListN.{length, take, drop, length-append, length-drop, drop_of_length-le}
use lib.Seq.{take_at, drop_at, take_all, drop-drop, length-take-le}
use borrow.Author.Tests.{le-leb}
use native.Mathlib.Omega.{arith}
use Rattle.utf8.specs.Chars.{All}
use Rattle.model.specs.MagicString.{MagicString, new, to_string}
use Rattle.model.specs.Limits.{full}
use Rattle.std.specs.Prelude.{Result, Ok, Err}
use Rattle.std.specs.Result.{result_unwrap_or}
use Rattle.memory_layout.specs.declared.refusal.Refusal.{Refusal}
use Rattle.memory_layout.specs.Refusals.{value_of}
use Rattle.model.specs.Call.{Report, show, Outcome}
use Rattle.model.specs.Call.{to_string as ToString}
use Rattle.model.specs.WellFormed as model
use Rattle.model_sheet.specs.BigEndian.{number}
use Rattle.model_sheet.specs.Record.{Recorded, records}
use Rattle.model_sheet.specs.Sheet.{MOST_RECORDS, MOST_LINE, MOST_TEXT, MOST_PRINTED, FRONT, source_size, run_sheet, line, lines, run_of, printed}
use Rattle.model_sheet.proofs.Sheets.{ReadSheet, read_of}
use Rattle.model_sheet.proofs.Runs.{sheet_small}
use Rattle.model_sheet.proofs.Printed.{Accepted, accepted, printed_refused}
use Rattle.model_sheet.proofs.Output.{output_most}
use Rattle.memory.specs.Layout.{magic_string_of}
use Rattle.memory.specs.WellFormed.{Full, Lengths, WellFormed}
use Rattle.memory.specs.Calls.{Told}
use Rattle.memory.specs.declared.Answer.{Answer}
use Rattle.memory.proofs.Desks.{limits_full}
use Rattle.sheet_records.specs.Found.{Counted}
use Rattle.sheet_records.proofs.Parts.{source_part, records_part, size_is, source_is, records_are}
use Rattle.sheet_lines.specs.Lines.{PutText, LinesAre}
use Rattle.sheet_run.specs.SheetRan.{outcome, SheetDone}
use Rattle.sheet_print.specs.PutPrinted.{Left, PutPrinted}

-- what is taken of an answer that is not refused
pub value_or : (r : Result ℕ Refusal) → value_of r ≡ result_unwrap_or r 0
value_or (Ok n) = refl
value_or (Err e) = refl

pub told_as : {q : Report} {m : MagicString} {o o' : List ℕ} {n v v' : ℕ} → v ≡ v' → Told q m o o' n v → Told q m o o' n v'
told_as {q} {m} {o} {o'} {n} e t = subst (Told q m o o' n) e t

-- ── a buffer with lines at its front, and a text behind them ──
-- the part behind the first n bytes, as it is lent on
abbrev mid : ℕ → List ℕ → List ℕ
mid n d = take (length d - n) (drop n d)

module _ (d d₁ mid' front text : List ℕ) (n v : ℕ) where
  pub behind_lines : d₁ ≡ front ++ drop (length front) d → n ≡ length front → mid' ≡ text ++ drop (length text) (mid n d₁) → v ≡ length text
      → (take n d₁ ++ (mid' ++ drop (length d₁ - n) (drop n d₁)) ≡ (front ++ text) ++ drop (length (front ++ text)) d) × (n + v ≡ length (front ++ text))
  behind_lines e q w s =
      let x = drop (length front) d in
      let first : take n d₁ ≡ front = ap (take n) e ∙ take_at front x n (sym q) in
      let back : drop n d₁ ≡ x = ap (drop n) e ∙ drop_at front x n (sym q) in
      let long : length d₁ ≡ length front + length x = ap length e ∙ length-append front x in
      let lent : mid n d₁ ≡ x = ap (take (length d₁ - n)) back ∙ take_all (length d₁ - n) x (omega arith) in
      let none : drop (length d₁ - n) (drop n d₁) ≡ [] = drop_of_length-le (drop n d₁) {i = length d₁ - n} (omega (arith, ap length back)) in
      let put : mid' ≡ text ++ drop (length text) x = w ∙ ap (λ l. text ++ drop (length text) l) lent in
      let size : length (front ++ text) ≡ length front + length text = length-append front text in (
        ap₂ (λ a b. a ++ b) first (ap₂ (λ a b. a ++ b) put none ∙ append-nil (text ++ drop (length text) x))
            ∙ sym (append_assoc front text (drop (length text) x))
            ∙ ap (λ l. (front ++ text) ++ l) (drop-drop (length text) (length front) d ∙ ap (λ k. drop k d) (sym size)),
        omega arith,
      )

-- ── the text, where there is room ──
pub text_told : (m : MagicString) (o o' : List ℕ) (number value : ℕ) → Told (ToString (length o)) m o o' number value → length (to_string m) ≤ length o
    → (o' ≡ to_string m ++ drop (length (to_string m)) o) × (value ≡ length (to_string m))
unfolding show
text_told m o o' number value h room =
    let fits = le-leb (length (to_string m)) (length o) room in
    (rw fits at h.written, rw fits at h.value_is)

-- ── what a run has left ──
module _ {sheet t p s a t' p' s' a' : List ℕ} {r : Answer} (h : SheetDone sheet t p s a t' p' s' a' r) (z : Full t p s) (e : length a ≡ MOST_RECORDS) where
  same_run : outcome sheet t p s a ≡ run_of sheet
  same_run = ap₂ (λ k n. run_sheet k n (new []) sheet) (limits_full z) e

  pub run_number : (run_of sheet).shown.number ≡ r.number
  run_number = sym (h.number_is ∙ ap (λ (o : Outcome). o.shown.number) same_run)

  pub run_low : r.number ≤ 16
  run_low = omega (arith, run_number, sheet_small full MOST_RECORDS (new []) sheet)

  pub run_left : r.number ≡ 0 → Lengths t p s t' p' s' → length a' ≡ length a → Left sheet r.value t' p' s' a'
  run_left q l long =
      let w = (run_of sheet).shown.written in
      let x : a' ≡ w ++ drop (length w) a = h.written ∙ ap (λ (o : Outcome). o.shown.written ++ drop (length o.shown.written) a) same_run in
      record {
        number = run_number ∙ q;
        value = h.value_is ∙ ap (λ (o : Outcome). o.shown.value) same_run;
        answers = x ∙ ap (λ y. w ++ y) (sym (ap (drop (length w)) x ∙ drop_at w (drop (length w) a) (length w) refl));
        room = long ∙ e;
        desk = h.desk_is q ∙ ap (λ (o : Outcome). o.desk) same_run;
        well_formed = h.well_formed q;
        full_size = record { chunks = l.chunks ∙ z.chunks; pieces = l.pieces ∙ z.pieces; store = l.store ∙ z.store };
      }

put_printed : {s d d' : List ℕ} {r : ℕ} → d' ≡ printed s ++ drop (length (printed s)) d → r ≡ length (printed s) → PutPrinted s d d' r
put_printed {s} {d} e q =
    record { out_is = e; size_is = q; fits = omega (arith, ap length e, length-append (printed s) (drop (length (printed s)) d)) }

-- ── a refusal is one line ──
pub put_refused : (s d d' : List ℕ) (n r : ℕ) → (run_of s).shown.number ≡ n → (n ≡ 0 → ⊥) → PutText d 0 (line 0 n) d' r → PutPrinted s d d' r
put_refused s d d' zero r e h x = absurd (h refl)
put_refused s d d' (suc n) r e h x =
    let q = printed_refused s n e in
    let zero_more : 0 + length (line 0 (suc n)) ≡ length (line 0 (suc n)) = omega arith in
    put_printed (x.out_is ∙ ap (λ k. line 0 (suc n) ++ drop k d) zero_more ∙ sym (ap (λ l. l ++ drop (length l) d) q)) (x.next_is ∙ omega (arith, ap length q))

-- ── an accepted run ──
module _ {sheet t p s a : List ℕ} {n : ℕ} (h : Left sheet n t p s a) where
  got : Accepted sheet
  got = accepted sheet h.number

  front : ReadSheet sheet got.read
  front = read_of got.is

  pub there : FRONT + source_size sheet ≤ length sheet
  there = front.front.there

  calls : length got.read.list ≡ n
  calls = sym got.value ∙ sym h.value

  pub few : n ≤ MOST_RECORDS
  few = omega (arith, front.count, calls)

  written : take n a ≡ (run_of sheet).shown.written
  written = ap (take n) h.answers ∙ take_at (run_of sheet).shown.written _ n (got.count ∙ calls)

  pub small : All (λ x. x < 100) (take n a)
  small = subst (All (λ x. x < 100)) (sym written) got.small

  module _ (k : ℕ) (e : k ≡ number (take 2 (drop 1 sheet))) where
    pub sized : k ≡ source_size sheet
    sized = size_is sheet k e

    are : records (records_part sheet k) ≡ some got.read.list
    are = records_are sheet k sized ∙ front.list

    pub counted : Counted (records_part sheet k) (length a) n
    counted = record { list = got.read.list; are = are; count = calls; few = omega (arith, few, h.room) }

    pub desk_formed : WellFormed (source_part sheet k) t p s
    desk_formed = subst (λ x. WellFormed x t p s) (sym (source_is sheet k sized)) h.well_formed

    -- the text has room behind the lines
    text_most : length (to_string (magic_string_of (source_part sheet k) t p s)) ≤ MOST_TEXT
    text_most =
        output_most (magic_string_of (source_part sheet k) t p s)
        (subst (λ q. model.WellFormed q (magic_string_of (source_part sheet k) t p s)) (limits_full h.full_size) desk_formed.desk)

    pub put_run : {d d₁ mid' : List ℕ} {r v number : ℕ} → MOST_PRINTED ≤ length d → length d₁ ≡ length d → r ≤ MOST_LINE * n
        → ((list : List Recorded) → records (records_part sheet k) ≡ some list → LinesAre list (take n a) d d₁ r)
        → Told (ToString (length (take (length d₁ - r) (drop r d₁)))) (magic_string_of (source_part sheet k) t p s) (take (length d₁ - r) (drop r d₁)) mid' number v
        → PutPrinted sheet d (take r d₁ ++ (mid' ++ drop (length d₁ - r) (drop r d₁))) (r + v)
    put_run {d} {d₁} {mid'} {r} {v} {number} room long low x y =
        let m = magic_string_of (source_part sheet k) t p s in
        let l = lines got.read.list (take n a) in
        let z = x got.read.list are in
        let lent : length (take (length d₁ - r) (drop r d₁)) ≡ length d₁ - r = length-take-le (length d₁ - r) (drop r d₁) (omega (arith, length-drop r d₁)) in
        let w = text_told m (take (length d₁ - r) (drop r d₁)) mid' number v y (omega (arith, text_most, few, lent)) in
        let b = behind_lines d d₁ mid' l (to_string m) r v z.out_is z.size_is w.0 w.1 in
        let same : m ≡ (run_of sheet).desk = ap (λ q. magic_string_of q t p s) (source_is sheet k sized) ∙ h.desk in
        let all : printed sheet ≡ l ++ to_string m =
        got.prints ∙ ap₂ (λ f g. lines got.read.list f ++ to_string g) (sym written) (sym same) in
        put_printed (b.0 ∙ sym (ap (λ q. q ++ drop (length q) d) all)) (b.1 ∙ sym (ap length all))
