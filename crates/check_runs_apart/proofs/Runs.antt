-- Marks of rows and of bytes as one pass: a run and its texts, and two runs.
use mathlib.Core.Path.{◌≡◌, refl, subst, ◌∙◌}
use Rattle.std.specs.Prelude.{Some, None}
use mathlib.Core.Bool.{Bool, true, false}
use mathlib.Core.List.{List}
use Prim.Native.Nat.{ℕ, ◌+◌, ◌-◌, ◌*◌, ◌/◌, ◌≤◌, ◌<◌, max}
use native.Mathlib.Omega.{arith}
use native.Mathlib.Numerals.{add-one}
use native.Mathlib.Decide.{dec_lt}
use lib.ListN.{length}
use Rattle.memory_layout.specs.Layout.{INTRO_AT, PIECE_ROWS, PIECES_LEN}
use Rattle.memory_table.specs.Order.{entry_at}
use Rattle.memory.specs.Layout.{Place}
use Rattle.memory.specs.WellFormed.{among, run_uses, piece_uses, list_uses}
use Rattle.memory.proofs.Desks.{among_none}
use Rattle.memory_used.specs.declared.Used.{Used}
use Rattle.memory_used.specs.Below.{Below}
use Rattle.memory_counting.specs.Counts.{sum_to}
use Rattle.memory_counting.proofs.Sums.{not_both}
use Rattle.check_marks.specs.Marks.{place_at, mark_at, Bits, Marked, Passed, entry_piece_count}
use Rattle.check_marks.proofs.Marking.{then_bits, to_bits}
use Rattle.check_marks.proofs.Passing.{stopped_as, pass_none, pass_on, pass_no, pass_by, PassesTo, passes_none, passes_more, passes_no, passes_done}
use Rattle.check_bit_marks.specs.BitMarks.{bit_at}
use Rattle.check_bit_marks.proofs.Marking.{marks_bits}
use Rattle.check_text_marks.specs.Texts.{RunEnds, TextsPassed}
use Rattle.check_text_marks.proofs.Marking.{enough_kept}
use Rattle.check_runs_apart.specs.Runs.{Spot, piece, byte, both, Markable, Lower, sizes, RunsPassed, RunPassed}

-- no marks
abbrev pub none : ℕ → ℕ
none b = 0

pub both_bits : (m g : ℕ → ℕ) → Bits m → Bits g → Bits (both m g)
unfolding Bits both
both_bits m g h k (piece j) = h j
both_bits m g h k (byte b) = k b

pub rows_bits : (m g : ℕ → ℕ) → Bits (both m g) → Bits m
unfolding Bits both
rows_bits m g h j = h (piece j)

-- ── marks on rows alone, and on bytes alone ──
rows_free : (m g f : ℕ → ℕ) → ((j : ℕ) → m j + f j ≤ 1) → Bits g → (x : Spot) → both m g x + both f none x ≤ 1
unfolding Bits both
rows_free m g f h k (piece j) = h j
rows_free m g f h k (byte b) = omega (arith, k b)

rows_marked : (m g f m' : ℕ → ℕ) → ((j : ℕ) → m' j ≡ m j + f j) → (x : Spot) → both m' g x ≡ both m g x + both f none x
unfolding both
rows_marked m g f m' h (piece j) = h j
rows_marked m g f m' h (byte b) = omega arith

bytes_free : (m g f : ℕ → ℕ) → Bits m → ((b : ℕ) → g b + f b ≤ 1) → (x : Spot) → both m g x + both none f x ≤ 1
unfolding Bits both
bytes_free m g f h k (piece j) = omega (arith, h j)
bytes_free m g f h k (byte b) = k b

bytes_marked : (m g f g' : ℕ → ℕ) → ((b : ℕ) → g' b ≡ g b + f b) → (x : Spot) → both m g' x ≡ both m g x + both none f x
unfolding both
bytes_marked m g f g' h (piece j) = omega arith
bytes_marked m g f g' h (byte b) = h b

module _ (size : ℕ) (p : List ℕ) (u : Used) where
  pub lift_rows : {r : Bool} {m m' : ℕ → ℕ} (g : ℕ → ℕ) (at n room row' k : ℕ) → Bits g → room ≡ length p / 2 → row' ≡ max u.row (at + n)
      → Marked r m (at + n ≤ room) (among (at, n)) m'
      → Passed r Lower (sizes size p) (both m g) u (λ w. at + n ≤ w.row) (both (among (at, n)) none) (both m' g) (record { pieces = k; row = row'; byte = u.byte })
  unfolding both
  lift_rows {m = m} {m' = m'} g at n room row' k h e d a =
      record {
        marked = record {
          decides = record {
            yes = λ t. let z = a.decides.yes t in record { fits = omega (arith, z.fits); free = rows_free m g (among (at, n)) z.free h };
            no = λ t f. a.decides.no t (record { fits = omega (arith, f.fits); free = λ j. f.free (piece j) });
          };
          marks = λ t. rows_marked m g (among (at, n)) m' (a.marks t);
        };
        raised = λ t. record { above = λ w l. ((omega arith, omega arith), omega arith); least = λ w l x. (omega arith, omega arith) };
      }

  pub lift_texts : {q : Bool} {g f g' : ℕ → ℕ} {E : ℕ → Type 0} {byte' : ℕ} (m : ℕ → ℕ) (k : ℕ) → Bits m → Passed q ◌≤◌ size g u.byte E f g' byte'
      → Passed q Lower (sizes size p) (both m g) u (λ w. E w.byte) (both none f) (both m g') (record { pieces = k; row = u.row; byte = byte' })
  unfolding both
  lift_texts {g = g} {f = f} {g' = g'} m k h a =
      record {
        marked = record {
          decides = record {
            yes = λ t. let z = a.marked.decides.yes t in record { fits = z.fits; free = bytes_free m g f h z.free };
            no = λ t f. a.marked.decides.no t (record { fits = f.fits; free = λ b. f.free (byte b) });
          };
          marks = λ t. bytes_marked m g f g' (a.marked.marks t);
        };
        raised = λ t. record {
          above = λ w l. let x = (a.raised t).above w.byte l.0 in ((x.0, l.1), x.1);
          least = λ w l x. ((a.raised t).least w.byte l.0 x, l.1);
        };
      }

-- ── a run ──
both_none : (f g : ℕ → ℕ) (x : Spot) → both f g x ≡ both f none x + both none g x
unfolding both
both_none f g (piece j) = omega arith
both_none f g (byte b) = omega arith

module _ (p : List ℕ) (at n : ℕ) (pos : 0 < n) where
  ends_below : (b row : ℕ) → (at + n ≤ row) × RunEnds p (at, n) b → Below p b row (at, n)
  ends_below b row h k l = (omega arith, h.1 k l)

  below_ends : (b row : ℕ) → Below p b row (at, n) → (at + n ≤ row) × RunEnds p (at, n) b
  below_ends b row h = (let x = (h (n - 1) (omega arith)).0 in omega arith, λ k l. (h k l).1)

module _ (size : ℕ) (p rows words : List ℕ) (u : Used) (at n : ℕ) where
  -- an empty run, wherever it is
  pub run_none : Markable size p rows words → n ≡ 0 → RunPassed (Some u) size p rows words u (at, n) rows words
  unfolding both run_uses
  run_none k e =
      record {
        passed = pass_none (both_bits _ _ k.bits (marks_bits words)) (λ w i l. absurd (omega arith)) (λ x. rw e (elim x as (λ y. both (among (at, 0)) (λ b. run_uses p b (at, 0)) y ≡ 0) [ piece j ↦ among_none at j | byte b ↦ refl ]));
        counted = λ t. omega arith;
      }

  module _ (k : Markable size p rows words) (pos : 0 < n) (rows' : List ℕ) {r : Bool} (a : Marked r (mark_at rows) (at + n ≤ length rows) (among (at, n)) (mark_at rows')) where
    rows_passed : (row' i : ℕ) → row' ≡ max u.row (at + n)
        → Passed r Lower (sizes size p) (both (mark_at rows) (bit_at words)) u (λ w. at + n ≤ w.row) (both (among (at, n)) none) (both (mark_at rows') (bit_at words))
        (record { pieces = i; row = row'; byte = u.byte })
    rows_passed row' i d = lift_rows size p u (bit_at words) at n (length rows) row' i (marks_bits words) k.rows_are d a

    pub some_yes : r ≡ true → (words' : List ℕ) (top row' : ℕ) → row' ≡ max u.row (at + n)
        → TextsPassed (Some top) size words u.byte (RunEnds p (at, n)) (λ b. run_uses p b (at, n)) words'
        → RunPassed (Some (record { pieces = u.pieces + n; row = row'; byte = top })) size p rows words u (at, n) rows' words'
    some_yes t words' top row' d x =
        let u₁ : Used = record { pieces = 0; row = row'; byte = u.byte } in
        let y = pass_on (rows_passed row' 0 d) t (lift_texts size p u₁ (mark_at rows') (u.pieces + n) (then_bits a t) x) in
        record {
          passed = pass_by y (λ w. ends_below p at n pos w.byte w.row) (λ w. below_ends p at n pos w.byte w.row) _ (both_none (among (at, n)) (λ b. run_uses p b (at, n)));
          counted = λ e. refl;
        }

    -- its texts do not fit, or it does not
    pub some_stop : r ≡ true → (words' words'' : List ℕ) → TextsPassed None size words u.byte (RunEnds p (at, n)) (λ b. run_uses p b (at, n)) words'
        → RunPassed None size p rows words u (at, n) rows' words''
    some_stop t words' words'' x =
        let row' = max u.row (at + n) in
        let u₁ : Used = record { pieces = 0; row = row'; byte = u.byte } in
        let y = pass_on (rows_passed row' 0 refl) t (lift_texts size p u₁ (mark_at rows') 0 (then_bits a t) x) in
        record {
          passed = stopped_as (pass_by y (λ w. ends_below p at n pos w.byte w.row) (λ w. below_ends p at n pos w.byte w.row) _ (both_none (among (at, n)) (λ b. run_uses p b (at, n))));
          counted = λ t. not_both t;
        }

    pub some_no : r ≡ false → (words' : List ℕ) → RunPassed None size p rows words u (at, n) rows' words'
    some_no e words' =
        let y = pass_no (rows_passed (max u.row (at + n)) 0 refl) (λ w. RunEnds p (at, n) w.byte) (both none (λ b. run_uses p b (at, n))) e in
        record {
          passed = pass_by y (λ w. ends_below p at n pos w.byte w.row) (λ w. below_ends p at n pos w.byte w.row) _ (both_none (among (at, n)) (λ b. run_uses p b (at, n)));
          counted = λ t. not_both t;
        }

-- ── one after another ──
-- after k parts, the marks are theirs, and u is what they use: part i lies below a byte and a row as E i says, marks what f i says and has c i pieces
pub record StepsTo (size : ℕ) (p rows₀ words₀ : List ℕ) (u₀ : Used) (E : ℕ → ℕ → ℕ → Type 0) (f : ℕ → Spot → ℕ) (c : ℕ → ℕ) (k : ℕ) (rows words : List ℕ) (u : Used) : Type 0 where
  pub rows_same : length rows ≡ length rows₀
  pub words_same : length words ≡ length words₀
  pub passes : PassesTo Lower (sizes size p) (both (mark_at rows₀) (bit_at words₀)) u₀ (λ i w. E i w.byte w.row) f k (both (mark_at rows) (bit_at words)) u
  pub counted : u.pieces ≡ u₀.pieces + sum_to c k
  pub few : u.pieces ≤ u₀.pieces + k * PIECES_LEN

module _ {size : ℕ} {p rows₀ words₀ : List ℕ} (m : Markable size p rows₀ words₀) where
  pub steps_none : {u₀ : Used} (E : ℕ → ℕ → ℕ → Type 0) (f : ℕ → Spot → ℕ) (c : ℕ → ℕ) → StepsTo size p rows₀ words₀ u₀ E f c 0 rows₀ words₀ u₀
  steps_none E f c =
      record {
        rows_same = refl;
        words_same = refl;
        passes = passes_none _ _ (both_bits _ _ m.bits (marks_bits words₀));
        counted = omega arith;
        few = omega arith;
      }

  module _ {u₀ u : Used} {E : ℕ → ℕ → ℕ → Type 0} {f : ℕ → Spot → ℕ} {c : ℕ → ℕ} {k : ℕ} {rows words : List ℕ} (a : StepsTo size p rows₀ words₀ u₀ E f c k rows words u) where
    -- the marks still serve
    pub steps_markable : Markable size p rows words
    steps_markable =
        record { rows_are = a.rows_same ∙ m.rows_are; few = m.few; bits = rows_bits _ _ (to_bits a.passes.marks); enough = enough_kept a.words_same m.enough }

    pub steps_more : {rows' words' : List ℕ} {v : Used} → RunsPassed true v size p rows words u (E k) (f k) (c k) rows' words'
        → c k ≤ PIECES_LEN → length rows' ≡ length rows → length words' ≡ length words → StepsTo size p rows₀ words₀ u₀ E f c (k + 1) rows' words' v
    steps_more b h lr lw =
        record {
          rows_same = lr ∙ a.rows_same;
          words_same = lw ∙ a.words_same;
          passes = passes_more a.passes b.passed refl;
          counted = rw add-one (omega (arith, b.counted refl, a.counted));
          few = omega (arith, b.counted refl, a.few);
        }

    pub steps_no : {rows' words' : List ℕ} {v : Used} → RunsPassed false v size p rows words u (E k) (f k) (c k) rows' words' → (n : ℕ) → k < n → (rows'' words'' : List ℕ)
        → RunsPassed false u₀ size p rows₀ words₀ u₀ (λ byte row. (i : ℕ) → i < n → E i byte row) (λ x. sum_to (λ i. f i x) n) (sum_to c n) rows'' words''
    steps_no b n l rows'' words'' = record { passed = passes_no a.passes n b.passed refl l; counted = λ s. not_both s }

    pub steps_done : (n : ℕ) → k ≡ n
        → RunsPassed true u size p rows₀ words₀ u₀ (λ byte row. (i : ℕ) → i < n → E i byte row) (λ x. sum_to (λ i. f i x) n) (sum_to c n) rows words
    steps_done n e = record { passed = passes_done a.passes n e; counted = λ s. rw e at a.counted }

-- what must lie below, what is marked and how many pieces there are may be said in another way
pub passed_by : {size : ℕ} {p rows words rows' words' : List ℕ} {u : Used} {E : ℕ → ℕ → Type 0} {f : Spot → ℕ} {c : ℕ} {ok : Bool} {v : Used}
    → RunsPassed ok v size p rows words u E f c rows' words' → (G : ℕ → ℕ → Type 0) → ((b row : ℕ) → E b row → G b row) → ((b row : ℕ) → G b row → E b row)
    → (g : Spot → ℕ) → ((x : Spot) → g x ≡ f x) → (d : ℕ) → d ≡ c → RunsPassed ok v size p rows words u G g d rows' words'
passed_by a G x y g h d e =
    record { passed = pass_by a.passed (λ w. x w.byte w.row) (λ w. y w.byte w.row) g h; counted = λ s. omega (arith, a.counted s) }

-- ── two runs ──
-- a run inside the table has no more rows than the table, so that a sum of counts fits a word
pub run_small : (p : List ℕ) (b row : ℕ) (x : Place) → Below p b row x → x.1 ≤ row
run_small p b row x h =
    elim (dec_lt 0 x.1) [ yes l ↦ let y = (h (x.1 - 1) (omega arith)).0 in omega arith | no l ↦ omega arith ]

pub run_few : {size : ℕ} {p rows words rows' words' : List ℕ} {u v : Used} (x : Place)
    → Markable size p rows words → RunPassed (Some v) size p rows words u x rows' words' → x.1 ≤ PIECE_ROWS
run_few {size = size} {p = p} x k a = omega (arith, run_small p size (length p / 2) x (a.passed.marked.decides.yes refl).fits, k.few)

-- run k of row i: the first, and the second
abbrev pub run_at : List ℕ → ℕ → ℕ → Place
run_at t i k = place_at t i (INTRO_AT + k * 2)

abbrev pub ListsTo : ℕ → List ℕ → ℕ → List ℕ → List ℕ → List ℕ → Used → ℕ → List ℕ → List ℕ → Used → Type 0
ListsTo size t i p rows₀ words₀ u₀ k rows words u =
    StepsTo size p rows₀ words₀ u₀ (λ j b row. Below p b row (run_at t i j)) (λ j. both (among (run_at t i j)) (λ b. run_uses p b (run_at t i j))) (λ j. (run_at t i j).1) k rows words u

two : (P : ℕ → Type 0) → P 0 → P 1 → (k : ℕ) → k < 2 → P k
two P a b k h = elim (dec_lt k 1) [ yes l ↦ subst P (omega arith) a | no l ↦ subst P (omega arith) b ]

both_two : (f g f' g' : ℕ → ℕ) (x : Spot) → both (λ j. f j + f' j) (λ b. g b + g' b) x ≡ 0 + both f g x + both f' g' x
unfolding both
both_two f g f' g' (piece j) = omega arith
both_two f g f' g' (byte b) = omega arith

module _ {size : ℕ} {p rows words rows' words' : List ℕ} {u : Used} (t : List ℕ) (i : ℕ) where
  pub lists_passed : {ok : Bool} {v : Used}
      → RunsPassed ok v size p rows words u (λ b row. (k : ℕ) → k < 2 → Below p b row (run_at t i k))
      (λ x. sum_to (λ k. both (among (run_at t i k)) (λ b. run_uses p b (run_at t i k)) x) 2) (sum_to (λ k. (run_at t i k).1) 2) rows' words'
      → RunsPassed ok v size p rows words u (λ b row. Below p b row (entry_at t i).intro × Below p b row (entry_at t i).outro)
      (both (λ j. piece_uses j (entry_at t i)) (λ b. list_uses p b (entry_at t i))) (entry_piece_count (entry_at t i)) rows' words'
  lists_passed a =
      passed_by a _ (λ b row h. (h 0 (omega arith), h 1 (omega arith))) (λ b row h. two (λ k. Below p b row (run_at t i k)) h.0 h.1) _
      (both_two (among (run_at t i 0)) (λ b. run_uses p b (run_at t i 0)) (among (run_at t i 1)) (λ b. run_uses p b (run_at t i 1))) _ (omega arith)
