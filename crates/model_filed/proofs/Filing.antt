-- Filing and withdrawing, case by case; entries by their calls, answers and marks.
use Prim.Native.Nat.{ℕ, zero, suc, ◌+◌, ◌≤◌, ◌<◌}
use mathlib.Core.Path.{◌≡◌, refl, sym, ap, ap₂, ◌∙◌}
use mathlib.Core.Bool.{Bool, true, false, ◌&&◌, cond, and-false}
use mathlib.Core.List.{List, [], ◌∷◌, ◌++◌}
use mathlib.Core.Option.{some}
use lib.Dec.{ltb, leb, eqb}
use lib.ListN.{length, get_or, take, drop, set}
use lib.Seq.{take_all, take-nil, take-append-le}
use borrow.Author.Tests.{ltb-true, leb-true, eqb-true, lt-ltb, le-leb, lt-leb, eq-eqb}
use native.Mathlib.Omega.{arith}
use Rattle.model.specs.Limits.{Limits}
use Rattle.model.specs.Call.{freeze}
use Rattle.model.proofs.Lists.{both, and_left, and_right}
use Rattle.model_sheet.specs.Record.{Recorded, fits, extent, parsed, records, text_size}
use Rattle.model_sheet.proofs.Whole.{Whole, fits_facts, facts_fits, of_whole}
use Rattle.model_sheet.proofs.Upto.{records_one}
use Rattle.model_filed.specs.Filed.{Entry, calls, answers_of, marks_of, entries_with, Sitting, Answered, MOST_CALLS, MOST_TEXT, within_bounds, unchanged, is_record, refused_filing, filed, file}
use Rattle.model_filed.specs.Filed.{without, run_anew, no_such_call, withdraw, edited_beside, if_filed, freeze_beside}
use Rattle.model_filed.specs.Marks.{HIGHEST_MARKS, marks_fit, mark_behind}

-- ── entries ──
pub calls_with : (l : List Recorded) (ns ms : List ℕ) → calls (entries_with l ns ms) ≡ l
calls_with [] ns ms = refl
calls_with (r ∷ l) ns ms = ap (λ x. r ∷ x) (calls_with l (drop 1 ns) (drop 1 ms))

pub with_length : (l : List Recorded) (ns ms : List ℕ) → length (entries_with l ns ms) ≡ length l
with_length [] ns ms = refl
with_length (r ∷ l) ns ms = ap suc (with_length l (drop 1 ns) (drop 1 ms))

-- the first of so many, and those behind it
head_take : (k : ℕ) (ns : List ℕ) → get_or (take (suc k) ns) 0 0 ≡ get_or ns 0 0
head_take k [] = refl
head_take k (n ∷ ns) = refl

tail_take : (k : ℕ) (ns : List ℕ) → drop 1 (take (suc k) ns) ≡ take k (drop 1 ns)
tail_take k [] = sym (take-nil k)
tail_take k (n ∷ ns) = refl

-- only as many answers and marks as calls are looked at
with_take : (l : List Recorded) (ns ms : List ℕ) → entries_with l (take (length l) ns) (take (length l) ms) ≡ entries_with l ns ms
with_take [] ns ms = refl
with_take (r ∷ l) ns ms =
    let k = length l in
    let rest : entries_with l (drop 1 (take (suc k) ns)) (drop 1 (take (suc k) ms)) ≡ entries_with l (drop 1 ns) (drop 1 ms) =
    ap₂ (entries_with l) (tail_take k ns) (tail_take k ms) ∙ with_take l (drop 1 ns) (drop 1 ms) in
    λ i. record { call = r; answer = head_take k ns i; marks = head_take k ms i } ∷ rest i

pub with_same : (l : List Recorded) (ns ns' ms ms' : List ℕ) → take (length l) ns ≡ take (length l) ns' → take (length l) ms ≡ take (length l) ms'
    → entries_with l ns ms ≡ entries_with l ns' ms'
with_same l ns ns' ms ms' p q = sym (with_take l ns ms) ∙ ap₂ (entries_with l) p q ∙ with_take l ns' ms'

pub with_front : (l : List Recorded) (ns ns' ms ms' : List ℕ) → length ns ≡ length l → length ms ≡ length l
    → entries_with l (ns ++ ns') (ms ++ ms') ≡ entries_with l ns ms
with_front l ns ns' ms ms' p q =
    with_same l (ns ++ ns') ns (ms ++ ms') ms (take-append-le (length l) ns ns' (omega arith)) (take-append-le (length l) ms ms' (omega arith))

-- their answers and their marks
pub answers_taken : (l : List Recorded) (ns ms : List ℕ) → length l ≤ length ns → answers_of (entries_with l ns ms) ≡ take (length l) ns
answers_taken [] ns ms h = refl
answers_taken (r ∷ l) [] ms h = absurd (omega arith)
answers_taken (r ∷ l) (n ∷ ns) ms h = ap (λ x. n ∷ x) (answers_taken l ns (drop 1 ms) (omega arith))

pub marks_taken : (l : List Recorded) (ns ms : List ℕ) → length l ≤ length ms → marks_of (entries_with l ns ms) ≡ take (length l) ms
marks_taken [] ns ms h = refl
marks_taken (r ∷ l) ns [] h = absurd (omega arith)
marks_taken (r ∷ l) ns (m ∷ ms) h = ap (λ x. m ∷ x) (marks_taken l (drop 1 ns) ms (omega arith))

pub answers_with : (l : List Recorded) (ns ms : List ℕ) → length ns ≡ length l → answers_of (entries_with l ns ms) ≡ ns
answers_with l ns ms e = answers_taken l ns ms (omega arith) ∙ take_all (length l) ns (omega arith)

pub marks_with : (l : List Recorded) (ns ms : List ℕ) → length ms ≡ length l → marks_of (entries_with l ns ms) ≡ ms
marks_with l ns ms e = marks_taken l ns ms (omega arith) ∙ take_all (length l) ms (omega arith)

-- marks written
pub mark_with : (l : List Recorded) (ns ms : List ℕ) (i m : ℕ) → i < length l → i < length ms
    → mark_behind i m (entries_with l ns ms) ≡ entries_with l ns (set ms i m)
mark_with [] ns ms i m h g = absurd (omega arith)
mark_with (r ∷ l) ns [] i m h g = absurd (omega arith)
mark_with (r ∷ l) ns (y ∷ ms) zero m h g = refl
mark_with (r ∷ l) ns (y ∷ ms) (suc i) m h g =
    ap (λ (x : List Entry). record { call = r; answer = get_or ns 0 0; marks = y } ∷ x) (mark_with l (drop 1 ns) ms i m (omega arith) (omega arith))

-- marks that fit, by their places
pub behind_first : (ms : List ℕ) (i : ℕ) → get_or (drop 1 ms) i 0 ≡ get_or ms (suc i) 0
behind_first [] i = refl
behind_first (m ∷ ms) i = refl

pub fit_with : (l : List Recorded) (ns ms : List ℕ) → ((i : ℕ) → i < length l → get_or ms i 0 ≤ HIGHEST_MARKS) → marks_fit (entries_with l ns ms) ≡ true
unfolding marks_fit
fit_with [] ns ms h = refl
fit_with (r ∷ l) ns ms h =
    let first : get_or ms 0 0 ≤ HIGHEST_MARKS = h 0 (omega arith) in
    let rest : (i : ℕ) → i < length l → get_or (drop 1 ms) i 0 ≤ HIGHEST_MARKS =
    λ i g. let e = behind_first ms i in let b : get_or ms (suc i) 0 ≤ HIGHEST_MARKS = h (suc i) (omega arith) in omega arith in
    both (le-leb (get_or ms 0 0) HIGHEST_MARKS first) (fit_with l (drop 1 ns) (drop 1 ms) rest)

pub unfit_with : (l : List Recorded) (ns ms : List ℕ) (i : ℕ) → i < length l → HIGHEST_MARKS < get_or ms i 0 → marks_fit (entries_with l ns ms) ≡ false
unfolding marks_fit
unfit_with [] ns ms i h g = absurd (omega arith)
unfit_with (r ∷ l) ns ms zero h g = rw (lt-leb (get_or ms 0 0) HIGHEST_MARKS g) refl
unfit_with (r ∷ l) ns ms (suc i) h g =
    rw (unfit_with l (drop 1 ns) (drop 1 ms) i (omega arith) (omega (arith, behind_first ms i))) (and-false (leb (get_or ms 0 0) HIGHEST_MARKS))

-- ── bounds ──
pub record Bounded (l : List Recorded) : Type 0 where
  pub few : length l ≤ MOST_CALLS
  pub text : text_size l ≤ MOST_TEXT

pub bounds_true : (l : List Recorded) → within_bounds l ≡ true → Bounded l
unfolding within_bounds
bounds_true l e =
    record {
      few = leb-true (length l) MOST_CALLS (and_left (leb (length l) MOST_CALLS) (leb (text_size l) MOST_TEXT) e);
      text = leb-true (text_size l) MOST_TEXT (and_right (leb (length l) MOST_CALLS) (leb (text_size l) MOST_TEXT) e);
    }

pub true_bounds : (l : List Recorded) → Bounded l → within_bounds l ≡ true
unfolding within_bounds
true_bounds l b = rw (le-leb (length l) MOST_CALLS b.few, le-leb (text_size l) MOST_TEXT b.text) refl

pub many_bounds : (l : List Recorded) → MOST_CALLS < length l → within_bounds l ≡ false
unfolding within_bounds
many_bounds l h = rw (lt-leb (length l) MOST_CALLS h) refl

pub long_bounds : (l : List Recorded) → MOST_TEXT < text_size l → within_bounds l ≡ false
unfolding within_bounds
long_bounds l h = rw (lt-leb (text_size l) MOST_TEXT h) (and-false (leb (length l) MOST_CALLS))

-- ── one record ──
-- bytes that are exactly one record
pub record Single (s : List ℕ) : Type 0 where
  pub all : extent s ≡ length s
  pub whole : Whole s

pub single : (s : List ℕ) → is_record s ≡ true → Single s
unfolding is_record
single s e =
    let all : extent s ≡ length s = eqb-true (extent s) (length s) (and_left (eqb (extent s) (length s)) (fits (get_or s 2 0) (extent s)) e) in
    let f = fits_facts (get_or s 2 0) (extent s) (and_right (eqb (extent s) (length s)) (fits (get_or s 2 0) (extent s)) e) in
    record { all = all; whole = record { known = f.0; room = f.1; tight = f.2; there = omega arith } }

pub of_single : {s : List ℕ} → Single s → is_record s ≡ true
unfolding is_record
of_single {s} h =
    let w = h.whole in
    rw (eq-eqb (extent s) (length s) h.all, facts_fits (get_or s 2 0) (extent s) w.known w.room w.tight) refl

pub not_single : (s : List ℕ) → (Single s → ⊥) → is_record s ≡ false
not_single s h = go (is_record s) refl
  where
    go : (b : Bool) → is_record s ≡ b → is_record s ≡ false
    go false e = e
    go true e = absurd (h (single s e))

pub single_records : {s : List ℕ} → Single s → records s ≡ some (parsed s ∷ [])
single_records {s} h = records_one s (parsed s) (of_whole h.whole) h.all

-- ── what refuses a filing ──
module _ (s : List ℕ) (l : List Recorded) where
  pub refused_16 : is_record s ≡ false → refused_filing s l ≡ 16
  unfolding refused_filing
  refused_16 e = rw e refl

  pub refused_13 : is_record s ≡ true → within_bounds (l ++ (parsed s ∷ [])) ≡ false → refused_filing s l ≡ 13
  unfolding refused_filing
  refused_13 e h = rw (e, h) refl

  pub refused_0 : is_record s ≡ true → within_bounds (l ++ (parsed s ∷ [])) ≡ true → refused_filing s l ≡ 0
  unfolding refused_filing
  refused_0 e h = rw (e, h) refl

-- ── the calls, by what refuses them ──
module _ (k : Limits) where
  pub file_refused : (s : List ℕ) (x : Sitting) (n : ℕ) → refused_filing s (calls x.entries) ≡ suc n → file k s x ≡ unchanged (suc n) x
  unfolding file
  file_refused s x n e = rw (e, file) refl

  pub file_filed : (s : List ℕ) (x : Sitting) → refused_filing s (calls x.entries) ≡ 0 → file k s x ≡ filed k (parsed s) x
  unfolding file
  file_filed s x e = rw (e, file) refl

  module _ (n : ℕ) (x : Sitting) where
    pub withdraw_refused : (i : ℕ) → no_such_call n x.entries ≡ suc i → withdraw k n x ≡ unchanged (suc i) x
    unfolding withdraw
    withdraw_refused i e = rw (e, withdraw) refl

    pub withdraw_done : no_such_call n x.entries ≡ 0
        → withdraw k n x ≡ record { number = 0; value = 0; left = run_anew k x.kept (without n (calls x.entries)) (without n (marks_of x.entries)) }
    unfolding withdraw
    withdraw_done e = rw (e, withdraw) refl

    pub withdrawn : (withdraw k n x).number ≡ 0 → no_such_call n x.entries ≡ 0
    withdrawn e = go (no_such_call n x.entries) refl
      where
        go : (i : ℕ) → no_such_call n x.entries ≡ i → no_such_call n x.entries ≡ 0
        go zero q = q
        go (suc i) q = let no : (withdraw k n x).number ≡ suc i = ap (λ (o : Answered). o.number) (withdraw_refused i q) in absurd (omega arith)

  module _ (a b : ℕ) (x : Sitting) where
    pub freeze_empty : x.entries ≡ [] → freeze_beside k a b x ≡ edited_beside k (freeze a b) x
    unfolding freeze_beside
    freeze_empty e = ap (λ l. if_filed l (unchanged 20 x) (edited_beside k (freeze a b) x)) e

    pub freeze_filed : {e : Entry} {l : List Entry} → x.entries ≡ e ∷ l → freeze_beside k a b x ≡ unchanged 20 x
    unfolding freeze_beside
    freeze_filed e = ap (λ l. if_filed l (unchanged 20 x) (edited_beside k (freeze a b) x)) e

module _ (n : ℕ) (l : List Entry) where
  pub found : 0 < n → n ≤ length l → no_such_call n l ≡ 0
  unfolding no_such_call
  found h g = rw (lt-ltb 0 n h, le-leb n (length l) g) refl

  pub found_range : no_such_call n l ≡ 0 → (0 < n) × (n ≤ length l)
  unfolding no_such_call
  found_range e = go (ltb 0 n) refl (leb n (length l)) refl e
    where
      go : (a : Bool) → ltb 0 n ≡ a → (b : Bool) → leb n (length l) ≡ b → ◌≡◌ {A = ℕ} (cond (a && b) 0 17) 0 → (0 < n) × (n ≤ length l)
      go true p true q h = (ltb-true 0 n p, leb-true n (length l) q)
      go true p false q h = absurd (omega arith)
      go false p b q h = absurd (omega arith)

  pub zero_not_found : n ≡ 0 → no_such_call n l ≡ 17
  unfolding no_such_call
  zero_not_found e = rw e refl

  pub past_not_found : length l < n → no_such_call n l ≡ 17
  unfolding no_such_call
  past_not_found h = rw (lt-leb n (length l) h, and-false (ltb 0 n)) refl

  pub not_found : (no_such_call n l ≡ 0 → ⊥) → no_such_call n l ≡ 17
  unfolding no_such_call
  not_found h = go (ltb 0 n && leb n (length l)) h
    where
      go : (b : Bool) → (◌≡◌ {A = ℕ} (cond b 0 17) 0 → ⊥) → ◌≡◌ {A = ℕ} (cond b 0 17) 17
      go true h = absurd (h refl)
      go false h = refl
