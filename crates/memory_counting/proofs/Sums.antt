-- Sums over 0 .. n - 1, and the pigeonhole law.
use mathlib.Core.Path.{◌≡◌, refl, sym, ◌∙◌}
use mathlib.Core.Bool.{Bool, true, false}
use Prim.Native.Nat.{ℕ, zero, suc, ◌+◌, ◌≤◌, ◌<◌, min}
use native.Mathlib.Omega.{arith}
use native.Mathlib.Decide.{ℕ_discrete, dec_lt, le_ind}
use borrow.Author.Tests.{eq-eqb, ne_eqb, le-leb, lt-leb, lt-ltb, le-ltb}
use lib.ListN.{get_or, replicate}
use Rattle.memory_counting.specs.Counts.{Decides, sum_to, indicator}
use Rattle.memory_counting.proofs.Counts.{one}

pub not_both : {A : Type 0} → false ≡ true → A
not_both e = let z : ◌≡◌ {A = ℕ} 0 1 = cc in absurd (omega arith)

pub is_yes : {P : Type 0} → P → Decides true P
is_yes x = record { yes = λ e. x; no = λ e. not_both (sym e) }

pub is_no : {P : Type 0} → (P → ⊥) → Decides false P
is_no x = record { yes = λ e. not_both e; no = λ e. x }

-- P may be said in another way
pub decides_by : {r : Bool} {P Q : Type 0} → (P → Q) → (Q → P) → Decides r P → Decides r Q
decides_by f g d = record { yes = λ e. f (d.yes e); no = λ e q. d.no e (g q) }

-- a test that is a definition's value
pub told : (r b : Bool) → r ≡ b → Decides r (b ≡ true)
told r b e = record { yes = λ t. sym e ∙ t; no = λ f t. not_both (sym f ∙ e ∙ t) }

-- ── one number, and one stretch of numbers ──
pub one_at : (x i : ℕ) → x ≡ i → one x i ≡ 1
unfolding one
one_at x i e = rw (eq-eqb x i e)

pub one_same : (x : ℕ) → one x x ≡ 1
one_same x = one_at x x refl

pub one_other : (x i : ℕ) → (x ≡ i → ⊥) → one x i ≡ 0
unfolding one
one_other x i ne = rw (ne_eqb x i ne)

pub indicator_in : (a e b : ℕ) → a ≤ b → b < e → indicator a e b ≡ 1
unfolding indicator
indicator_in a e b h k = rw (le-leb a b h, lt-ltb b e k)

pub indicator_before : (a e b : ℕ) → b < a → indicator a e b ≡ 0
unfolding indicator
indicator_before a e b h = rw (lt-leb a b h)

pub indicator_after : (a e b : ℕ) → e ≤ b → indicator a e b ≡ 0
unfolding indicator
indicator_after a e b h = elim (dec_lt b a) [ yes k ↦ rw (lt-leb a b k) | no k ↦ rw (le-leb a b (omega arith), le-ltb b e h) ]

-- ── sums ──
pub sum_zero : (f : ℕ → ℕ) (n : ℕ) → ((k : ℕ) → k < n → f k ≡ 0) → sum_to f n ≡ 0
sum_zero f zero h = refl
sum_zero f (suc n) h = omega (arith, sum_zero f n (λ k l. h k (omega arith)), h n (omega arith))

pub sum_same : (f g : ℕ → ℕ) (n : ℕ) → ((k : ℕ) → k < n → f k ≡ g k) → sum_to f n ≡ sum_to g n
sum_same f g zero h = refl
sum_same f g (suc n) h = omega (arith, sum_same f g n (λ k l. h k (omega arith)), h n (omega arith))

pub sum_le : (f g : ℕ → ℕ) (n : ℕ) → ((k : ℕ) → k < n → f k ≤ g k) → sum_to f n ≤ sum_to g n
sum_le f g zero h = omega arith
sum_le f g (suc n) h = omega (arith, sum_le f g n (λ k l. h k (omega arith)), h n (omega arith))

pub sum_add : (f g : ℕ → ℕ) (n : ℕ) → sum_to (λ k. f k + g k) n ≡ sum_to f n + sum_to g n
sum_add f g zero = refl
sum_add f g (suc n) = omega (arith, sum_add f g n)

pub sum_mono : (f : ℕ → ℕ) (i n : ℕ) → i ≤ n → sum_to f i ≤ sum_to f n
sum_mono f i n h = le_ind (λ m. sum_to f i ≤ sum_to f m) (omega arith) (λ m (hm : i ≤ m) ih. omega arith) n h

-- the first term, and the others
pub sum_first : (f : ℕ → ℕ) (n : ℕ) → sum_to f (suc n) ≡ f 0 + sum_to (λ k. f (suc k)) n
sum_first f zero = omega arith
sum_first f (suc n) = omega (arith, sum_first f n)

-- at most 1 each
pub sum_ones : (f : ℕ → ℕ) (n : ℕ) → ((k : ℕ) → k < n → f k ≤ 1) → sum_to f n ≤ n
sum_ones f zero h = omega arith
sum_ones f (suc n) h = omega (arith, sum_ones f n (λ k l. h k (omega arith)), h n (omega arith))

-- the pigeonhole law: if no f k is above g k and the sums are equal, each f k is g k
pub sum_tight : (f g : ℕ → ℕ) (n : ℕ) → ((k : ℕ) → k < n → f k ≤ g k) → sum_to g n ≤ sum_to f n → (k : ℕ) → k < n → f k ≡ g k
sum_tight f g zero h e k l = absurd (omega arith)
sum_tight f g (suc n) h e k l =
    let s : sum_to f n ≤ sum_to g n = sum_le f g n (λ j m. h j (omega arith)) in
    let t : f n ≤ g n = h n (omega arith) in
    elim (ℕ_discrete k n) [
      | yes q ↦ rw q (omega arith)
      | no q ↦ sum_tight f g n (λ j m. h j (omega arith)) (omega arith) k (omega arith)
    ]

-- what a stretch that ends before m holds of 0 .. m - 1
pub sum_indicator : (a e m : ℕ) → a ≤ e → sum_to (indicator a e) m + min m a ≡ min m e
sum_indicator a e zero h = omega arith
sum_indicator a e (suc m) h =
    let i = sum_indicator a e m h in
    elim (dec_lt m a) [
      | yes p ↦ omega (arith, i, indicator_before a e m p)
      | no p ↦ elim (dec_lt m e) [
        | yes q ↦ omega (arith, i, indicator_in a e m (omega arith) q)
        | no q ↦ omega (arith, i, indicator_after a e m (omega arith))
      ]
    ]

-- ── an array of zeros ──
pub zero_at : (n b : ℕ) → get_or {A = ℕ} (replicate n 0) b 0 ≡ 0
zero_at zero b = refl
zero_at (suc n) zero = refl
zero_at (suc n) (suc b) = zero_at n b
