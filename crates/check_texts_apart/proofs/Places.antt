-- A pass over the rows: a replacement, a row, rows one after another; and what it decides on marks that are clear.
use mathlib.Core.Path.{◌≡◌, refl, sym, ap, subst, ◌∙◌}
use Rattle.std.specs.Prelude.{Option, Some, None}
use mathlib.Core.Bool.{Bool, true}
use mathlib.Core.List.{List}
use Prim.Native.Nat.{ℕ, zero, suc, ◌+◌, ◌/◌, ◌≤◌, ◌<◌}
use native.Mathlib.Omega.{arith}
use native.Mathlib.Numerals.{add-one}
use borrow.Author.Tests.{ne_eqb, eq-eqb}
use lib.ListN.{length, take, replicate, length-replicate}
use Rattle.memory_layout.specs.Layout.{TEXT_AT, TEXT_N, PIECE_ROWS, PIECES_LEN, STORE_LEN, STORE_MARKS, NONE}
use Rattle.memory_table.specs.Order.{Entry, entry_at}
use Rattle.memory.specs.WellFormed.{among, replacement_uses, piece_uses, list_uses, byte_uses}
use Rattle.memory_counting.specs.Counts.{sum_to}
use Rattle.memory_counting.proofs.Sums.{not_both, sum_first, sum_same}
use Rattle.memory.proofs.Desks.{zeros_length, zeros_at}
use Rattle.memory_used.specs.declared.Used.{Used}
use Rattle.memory_used.specs.Below.{EntryBelow}
use Rattle.check_marks.specs.Marks.{cell, entry_piece_count, mark_at, Bits, Passed}
use Rattle.check_marks.proofs.Marking.{then_bits}
use Rattle.check_marks.proofs.Passing.{stopped_as, pass_none, pass_on, pass_no, pass_by}
use Rattle.check_bit_marks.specs.BitMarks.{bit_at}
use Rattle.check_bit_marks.proofs.Marking.{marks_clear}
use Rattle.check_text_marks.specs.Texts.{TextsPassed}
use Rattle.check_runs_apart.specs.Runs.{Spot, piece, byte, both, Markable, Lower, sizes, ListsPassed}
use Rattle.check_runs_apart.proofs.Runs.{none, rows_bits, lift_texts, run_small, StepsTo}
use Rattle.check_texts_apart.specs.Places.{RowsBelow, Apart, Places, nothing, TextBelow, text_start, entry_of_row, EntryPassed, RowsPassed}

-- ── a replacement ──
pub replacement_none : {size top : ℕ} {m : ℕ → ℕ} (at n : ℕ) → Bits m → at ≡ NONE → Passed true ◌≤◌ size m top (TextBelow (at, n)) (λ b. replacement_uses b (at, n)) m top
unfolding replacement_uses
replacement_none at n h e = pass_none h (λ w ne. absurd (ne e)) (λ b. rw (eq-eqb at NONE e))

replacement_some : {r : Bool} {size top top' : ℕ} {m m' : ℕ → ℕ} (at n : ℕ) → (at ≡ NONE → ⊥) → Passed r ◌≤◌ size m top (λ w. at + n ≤ w) (among (at, n)) m' top'
    → Passed r ◌≤◌ size m top (TextBelow (at, n)) (λ b. replacement_uses b (at, n)) m' top'
unfolding replacement_uses
replacement_some at n ne a = pass_by a (λ w x y. x) (λ w x. x ne) _ (λ b. rw (ne_eqb at NONE ne))

pub replacement_told : (size low : ℕ) (words words' : List ℕ) (at n : ℕ) → (at ≡ NONE → ⊥) → (r : Option ℕ)
    → TextsPassed r size words low (λ w. at + n ≤ w) (among (at, n)) words' → TextsPassed r size words low (TextBelow (at, n)) (λ b. replacement_uses b (at, n)) words'
replacement_told size low words words' at n ne (Some top) a = replacement_some at n ne a
replacement_told size low words words' at n ne None a = replacement_some at n ne a

-- ── a row ──
both_texts : (f g h : ℕ → ℕ) (x : Spot) → both f (λ b. g b + h b) x ≡ both f g x + both none h x
unfolding both
both_texts f g h (piece j) = omega arith
both_texts f g h (byte b) = refl

module _ {size : ℕ} {p rows words rows₁ words₁ : List ℕ} {u : Used} (e : Entry) where
  module _ {v : Used} (a : ListsPassed (Some v) size p rows words u e rows₁ words₁) where
    -- a replacement after two runs that lie so
    texts_on : {q : Bool} {top : ℕ} (words₂ : List ℕ) → Passed q ◌≤◌ size (bit_at words₁) v.byte (TextBelow e.text) (λ b. replacement_uses b e.text) (bit_at words₂) top
        → Passed q Lower (sizes size p) (both (mark_at rows) (bit_at words)) u (λ w. EntryBelow p w.byte w.row e) (both (λ j. piece_uses j e) (λ b. byte_uses p b e))
        (both (mark_at rows₁) (bit_at words₂)) (record { pieces = v.pieces; row = v.row; byte = top })
    texts_on words₂ x =
        let bits = rows_bits (mark_at rows₁) (bit_at words₁) (then_bits a.passed.marked refl) in
        let y = pass_on a.passed refl (lift_texts size p v (mark_at rows₁) v.pieces bits x) in
        pass_by y (λ w z. record { intro = z.0.0; outro = z.0.1; text = z.1 }) (λ w z. ((z.intro, z.outro), z.text)) _ (both_texts _ _ _)

    pub entry_yes : (words₂ : List ℕ) {top : ℕ} → TextsPassed (Some top) size words₁ v.byte (TextBelow e.text) (λ b. replacement_uses b e.text) words₂
        → EntryPassed (Some (record { pieces = v.pieces; row = v.row; byte = top })) size p rows words u e rows₁ words₂
    entry_yes words₂ x = record { passed = texts_on words₂ x; counted = λ s. a.counted refl }

    pub entry_stop : (words₂ : List ℕ) → TextsPassed None size words₁ v.byte (TextBelow e.text) (λ b. replacement_uses b e.text) words₂
        → EntryPassed None size p rows words u e rows₁ words₂
    entry_stop words₂ x = record { passed = stopped_as (texts_on words₂ x); counted = λ t. not_both t }

  pub entry_no : ListsPassed None size p rows words u e rows₁ words₁ → (rows₂ words₂ : List ℕ) → EntryPassed None size p rows words u e rows₂ words₂
  entry_no a rows₂ words₂ =
      let y = pass_no a.passed (λ w. TextBelow e.text w.byte) (both none (λ b. replacement_uses b e.text)) refl in
      record {
        passed = pass_by y (λ w z. record { intro = z.0.0; outro = z.0.1; text = z.1 }) (λ w z. ((z.intro, z.outro), z.text)) _ (both_texts _ _ _);
        counted = λ t. not_both t;
      }

-- a row inside the tables has no more than 4,096 pieces
pub entry_few : {size : ℕ} {p rows words rows' words' : List ℕ} {u v : Used} (e : Entry)
    → Markable size p rows words → EntryPassed (Some v) size p rows words u e rows' words' → entry_piece_count e ≤ PIECES_LEN
entry_few {size = size} {p = p} e k a =
    let f = (a.passed.marked.decides.yes refl).fits in
    omega (arith, run_small p size (length p / 2) e.intro f.intro, run_small p size (length p / 2) e.outro f.outro, k.few)

-- ── rows one after another ──
abbrev pub RowsTo : ℕ → List ℕ → List ℕ → List ℕ → List ℕ → Used → ℕ → List ℕ → List ℕ → Used → Type 0
RowsTo size t p rows₀ words₀ u₀ k rows words u =
    StepsTo size p rows₀ words₀ u₀ (λ i b row. EntryBelow p b row (entry_of_row t i)) (λ i. both (λ j. piece_uses j (entry_of_row t i)) (λ b. byte_uses p b (entry_of_row t i)))
    (λ i. entry_piece_count (entry_of_row t i)) k rows words u

-- ── row 0, and the rows behind it ──
pub start_first : (t : List ℕ) (i : ℕ) → i ≡ 0 → text_start t i ≡ NONE
unfolding text_start
start_first t i e = rw (eq-eqb i 0 e)

pub start_other : (t : List ℕ) (i : ℕ) → (i ≡ 0 → ⊥) → text_start t i ≡ cell t i TEXT_AT
unfolding text_start
start_other t i ne = rw (ne_eqb i 0 ne)

first_text : (t : List ℕ) → text_start t 0 ≡ NONE
first_text t = start_first t 0 refl

row_entry : (t : List ℕ) (k : ℕ) → entry_of_row t (k + 1) ≡ entry_at t (k + 1)
unfolding text_start
row_entry t k = rw (ne_eqb (k + 1) 0 (λ e. omega arith))

rows_sum : (t : List ℕ) (F : Entry → ℕ) (n : ℕ) → sum_to (λ i. F (entry_of_row t i)) (n + 1) ≡ F (entry_of_row t 0) + sum_to (λ k. F (entry_at t (k + 1))) n
rows_sum t F n =
    ap (sum_to (λ i. F (entry_of_row t i))) (add-one n) ∙ sum_first (λ i. F (entry_of_row t i)) n
    ∙ ap (λ x. F (entry_of_row t 0) + x) (sum_same _ _ n (λ k h. ap (λ i. F (entry_of_row t i)) (sym (add-one k)) ∙ ap F (row_entry t k)))

-- row 0 has the bytes of its two runs
first_bytes : (t p : List ℕ) (b : ℕ) → byte_uses p b (entry_of_row t 0) ≡ list_uses p b (entry_at t 0)
unfolding replacement_uses
first_bytes t p b = omega (arith, ap (λ x. replacement_uses b (x, cell t 0 TEXT_N)) (first_text t))

module _ (t p : List ℕ) (n : ℕ) where
  below_rows : (b row : ℕ) → ((i : ℕ) → i < n + 1 → EntryBelow p b row (entry_of_row t i)) → RowsBelow t p n b row
  below_rows b row h =
      let z = h 0 (omega arith) in
      record { desk = (z.intro, z.outro); chunks = λ k l. rw (row_entry t k) at (h (k + 1) (omega arith)) }

  rows_below : (b row : ℕ) → RowsBelow t p n b row → (i : ℕ) → i < n + 1 → EntryBelow p b row (entry_of_row t i)
  rows_below b row h zero l = record { intro = h.desk.0; outro = h.desk.1; text = λ ne. absurd (ne (first_text t)) }
  rows_below b row h (suc k) l = subst (EntryBelow p b row) (sym (ap (entry_of_row t) (sym (add-one k)) ∙ row_entry t k)) (h.chunks k (omega arith))

  rows_apart : ((x : Spot) → sum_to (λ i. both (λ j. piece_uses j (entry_of_row t i)) (λ b. byte_uses p b (entry_of_row t i)) x) (n + 1) ≤ 1) → Apart t p n
  unfolding both
  rows_apart h =
      record {
        pieces = λ j. omega (arith, h (piece j), rows_sum t (piece_uses j) n);
        bytes = λ b. omega (arith, h (byte b), rows_sum t (byte_uses p b) n, first_bytes t p b);
      }

  apart_rows : Apart t p n → (x : Spot) → sum_to (λ i. both (λ j. piece_uses j (entry_of_row t i)) (λ b. byte_uses p b (entry_of_row t i)) x) (n + 1) ≤ 1
  unfolding both
  apart_rows h (piece j) = omega (arith, h.pieces j, rows_sum t (piece_uses j) n)
  apart_rows h (byte b) = omega (arith, h.bytes b, rows_sum t (byte_uses p b) n, first_bytes t p b)

-- ── on marks that are clear ──
clear_at : (rows words : List ℕ) → ((j : ℕ) → mark_at rows j ≡ 0) × ((b : ℕ) → bit_at words b ≡ 0) → (x : Spot) → both (mark_at rows) (bit_at words) x ≡ 0
unfolding both
clear_at rows words clear (piece j) = clear.0 j
clear_at rows words clear (byte b) = clear.1 b

module _ (size : ℕ) (t p rows words rows' words' : List ℕ) (n : ℕ) (clear : ((j : ℕ) → mark_at rows j ≡ 0) × ((b : ℕ) → bit_at words b ≡ 0)) where
  pub places_decided : (r : Option Used) → RowsPassed r size t p rows words (n + 1) nothing rows' words' → Places r t p n size
  places_decided (Some u) a =
      let f = a.passed.marked.decides.yes refl in
      let up = a.passed.raised refl in
      let x = (up.above u (omega arith, omega arith)).1 in
      let y = up.least (sizes size p) (omega arith, omega arith) f.fits in (
        record { below = below_rows t p n size (length p / 2) f.fits; apart = rows_apart t p n (λ x. omega (arith, f.free x)) },
        record {
          pieces = omega (arith, a.counted refl, rows_sum t entry_piece_count n);
          below = below_rows t p n u.byte u.row x;
          row = y.1;
          byte = y.0;
        },
      )
  places_decided None a = λ q.
      a.passed.marked.decides.no refl
      (record { fits = rows_below t p n size (length p / 2) q.below; free = λ x. omega (arith, apart_rows t p n q.apart x, clear_at rows words clear x) })

-- marks of their own: clear, and one for each piece row and each byte
pub fresh_marks : {size : ℕ} {p : List ℕ} (k : ℕ) → length p ≤ PIECES_LEN → size ≤ STORE_LEN → k ≡ length p / 2 → Markable size p (take k (replicate PIECE_ROWS 0)) (replicate STORE_MARKS 0)
unfolding Bits mark_at
fresh_marks k h l e =
    record {
      rows_are = zeros_length PIECE_ROWS k (omega arith) ∙ e;
      few = h;
      bits = λ j. omega (arith, zeros_at PIECE_ROWS k j);
      enough = record { marks = omega (arith, length-replicate {A = ℕ} STORE_MARKS 0); small = omega (arith, length-replicate {A = ℕ} STORE_MARKS 0) };
    }

pub fresh_clear : (k : ℕ) → ((j : ℕ) → mark_at (take k (replicate PIECE_ROWS 0)) j ≡ 0) × ((b : ℕ) → bit_at (replicate STORE_MARKS 0) b ≡ 0)
unfolding mark_at
fresh_clear k = (zeros_at PIECE_ROWS k, marks_clear STORE_MARKS)
