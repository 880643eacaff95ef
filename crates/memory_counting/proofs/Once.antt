-- Laws of what `Once` in specs/ defines.
use mathlib.Core.Path.{◌≡◌, refl, ap, sym, subst, ◌∙◌}
use mathlib.Core.List.{List, [], ◌∷◌}
use Prim.Native.Nat.{ℕ, zero, suc, ◌+◌, ◌*◌, ◌-◌, ◌≤◌, ◌<◌, min}
use native.Mathlib.Omega.{arith}
use native.Mathlib.Nat.{add-mul}
use native.Mathlib.Numerals.{add-one}
use native.Mathlib.Decide.{ℕ_discrete}
use lib.ListN.{length}
use Rattle.utf8.specs.Chars.{All, nil, cons}
use Rattle.memory_table.specs.Ring.{Each, Edge, Links, follow, Ring}
use Rattle.memory_table.proofs.Ring.{each_map, Pos, later, length_follow}
use Rattle.memory_table.specs.Order.{next_of, prev_of, count_of, order, Linked}
use Rattle.model.specs.Text.{sum}
use Rattle.memory.specs.WellFormed.{times}
use Rattle.memory.proofs.Desks.{times_none}
use Rattle.memory_counting.specs.Counts.{sum_to}
use Rattle.memory_counting.proofs.Counts.{one}
use Rattle.memory_counting.proofs.Sums.{one_same, one_other, sum_zero, sum_same, sum_add, sum_first, sum_tight}
use Rattle.memory_counting.specs.Once.{In}

-- each of 1 to n stands in the list once, and nothing else
pub record Once (n : ℕ) (xs : List ℕ) : Type 0 where
  pub inside : Each (In n) xs
  pub each : (i : ℕ) → 0 < i → i ≤ n → times i xs ≡ 1

pub times_nil : (i : ℕ) → times i [] ≡ 0
unfolding times
times_nil i = refl

pub times_cons : (i x : ℕ) (xs : List ℕ) → times i (x ∷ xs) ≡ one x i + times i xs
unfolding times one
times_cons i x xs = refl

-- ── a sum over the list is a sum over the numbers, each as often as it stands there ──
-- f x, as a sum with one term that is not 0
sum_single : (f : ℕ → ℕ) (x n : ℕ) → x < n → sum_to (λ i. one x i * f i) n ≡ f x
sum_single f x zero h = absurd (omega arith)
sum_single f x (suc n) h =
    elim (ℕ_discrete x n) [
      | yes q ↦ let z : sum_to (λ i. one x i * f i) n ≡ 0 = sum_zero (λ i. one x i * f i) n (λ k l. rw (one_other x k (λ e. omega arith)) (omega arith)) in
          rw (z, q, one_same n) (omega arith)
      | no q ↦ let z : one x n * f n ≡ 0 = rw (one_other x n q) (omega arith) in
          omega (arith, z, sum_single f x n (omega arith))
    ]

sum_times : (f : ℕ → ℕ) (n : ℕ) (xs : List ℕ) → Each (λ x. x < n) xs → sum f xs ≡ sum_to (λ i. times i xs * f i) n
sum_times f n [] e = sym (sum_zero (λ i. times i [] * f i) n (λ k l. rw (times_nil k) (omega arith)))
sum_times f n (x ∷ xs) e =
    let d : sum_to (λ i. times i (x ∷ xs) * f i) n ≡ sum_to (λ i. one x i * f i + times i xs * f i) n =
    sum_same (λ i. times i (x ∷ xs) * f i) (λ i. one x i * f i + times i xs * f i) n (λ k l. ap (λ (m : ℕ). m * f k) (times_cons k x xs) ∙ add-mul (one x k) (times k xs) (f k)) in
    omega (arith, d, sum_add (λ i. one x i * f i) (λ i. times i xs * f i) n, sum_single f x n e.0, sum_times f n xs e.1)

each_below : (n : ℕ) (xs : List ℕ) → Each (In n) xs → Each (λ x. x < suc n) xs
each_below n [] e = tt
each_below n (x ∷ xs) e = (omega (arith, e.0.1), each_below n xs e.1)

no_zero : (n : ℕ) (xs : List ℕ) → Each (In n) xs → times 0 xs ≡ 0
no_zero n [] e = times_nil 0
no_zero n (x ∷ xs) e = omega (arith, times_cons 0 x xs, one_other x 0 (λ q. omega (arith, e.0.0)), no_zero n xs e.1)

-- ── the laws ──
module _ {n : ℕ} {xs : List ℕ} (o : Once n xs) where
  pub sum_once : (f : ℕ → ℕ) → sum f xs ≡ sum_to (λ k. f (k + 1)) n
  sum_once f =
      let z : times 0 xs * f 0 ≡ 0 = rw (no_zero n xs o.inside) (omega arith) in
      let s : sum_to (λ k. times (suc k) xs * f (suc k)) n ≡ sum_to (λ k. f (k + 1)) n =
      sum_same (λ k. times (suc k) xs * f (suc k)) (λ k. f (k + 1)) n (λ k l. rw (o.each (suc k) (omega arith) l, add-one) (omega arith)) in
      omega (arith, sum_times f (suc n) xs (each_below n xs o.inside), sum_first (λ i. times i xs * f i) n, z, s)

all_in : {n : ℕ} {P : ℕ → Type 0} (xs : List ℕ) → Each (In n) xs → ((k : ℕ) → k < n → P (k + 1)) → All P xs
all_in [] e h = nil
all_in {P = P} (x ∷ xs) e h =
    let q : x - 1 + 1 ≡ x = omega (arith, e.0.0) in
    cons (subst P q (h (x - 1) (omega (arith, e.0.0, e.0.1)))) (all_in xs e.1 h)

in_all : {P : ℕ → Type 0} (i : ℕ) (xs : List ℕ) → 0 < times i xs → All P xs → P i
in_all i [] h a = absurd (omega (arith, times_nil i))
in_all i (x ∷ xs) h (cons p a) =
    elim (ℕ_discrete x i) [
      | yes e ↦ rw e at p
      | no e ↦ in_all i xs (omega (arith, times_cons i x xs, one_other x i e)) a
    ]

module _ {n : ℕ} {xs : List ℕ} {P : ℕ → Type 0} (o : Once n xs) where
  pub all_once : ((k : ℕ) → k < n → P (k + 1)) → All P xs
  all_once h = all_in xs o.inside h

  pub once_all : All P xs → (k : ℕ) → k < n → P (k + 1)
  once_all a k h = in_all (k + 1) xs (omega (arith, o.each (k + 1) (omega arith) (omega arith))) a

sum_const : (xs : List ℕ) → sum (λ i. 1) xs ≡ length xs
sum_const [] = refl
sum_const (x ∷ xs) = omega (arith, sum_const xs)

-- ── a list without repetition, of n of the numbers 1 to n, has each ──
sum_positive : (n : ℕ) → sum_to (min 1) (suc n) ≡ n
sum_positive zero = refl
sum_positive (suc n) = omega (arith, sum_positive n)

pub pigeon : (n : ℕ) (xs : List ℕ) → length xs ≡ n → Each (In n) xs → ((i : ℕ) → times i xs ≤ 1) → Once n xs
pigeon n xs l a d =
    record {
      inside = a;
      each = λ i p h.
          let s = sum_times (λ i. 1) (suc n) xs (each_below n xs a) in
          let u = sum_same (λ i. times i xs * 1) (λ i. times i xs) (suc n) (λ k m. omega arith) in
          let c = sum_const xs in
          let t = sum_tight (λ i. times i xs) (min 1) (suc n) (λ k m. elim (ℕ_discrete k 0) [ yes q ↦ rw q (omega (arith, no_zero n xs a)) | no q ↦ omega (arith, d k) ])
          (omega (arith, sum_positive n)) i (omega arith) in
          omega arith;
    }

-- ── the members of a ring ──
module _ (nx pv : ℕ → ℕ) where
  pub twice : (n i : ℕ) (xs : List ℕ) → Links (Edge nx pv) i xs 0 → Each (In n) xs → (j : ℕ) → times j xs ≤ 1
  twice n i [] l p j = omega (arith, times_nil j)
  twice n i (x ∷ xs) l p j =
      elim (ℕ_discrete x j) [
        | yes e ↦ let z = times_none x xs (later nx pv x xs l.1 (each_map (In n) Pos (λ a h. h.0) xs p.1)) in
            rw (← e) (omega (arith, times_cons x x xs, one_same x, z))
        | no e ↦ omega (arith, times_cons j x xs, one_other x j e, twice n x xs l.1 p.1 j)
      ]

  pub ring_once : (n : ℕ) → Ring nx pv n → Once n (follow nx n (nx 0))
  ring_once n r = pigeon n (follow nx n (nx 0)) (length_follow nx n (nx 0)) r.inside (twice n 0 (follow nx n (nx 0)) r.links r.inside)

-- the chunks of a linked table
pub linked_once : (t : List ℕ) → Linked t → Once (count_of t) (order t)
unfolding order
linked_once t l = ring_once (next_of t) (prev_of t) (count_of t) l.ring
