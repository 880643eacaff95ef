-- How a fact is carried through a test, and laws of `All` and `sum` that the other files cite beside the model's Lists.
use Prim.Native.Nat.{ℕ, zero, suc, ◌+◌, ◌≤◌}
use native.Mathlib.Omega.{arith}
use mathlib.Core.Path.{◌≡◌, refl}
use mathlib.Core.Bool.{Bool, true, false, not, cond}
use mathlib.Core.List.{List, [], ◌∷◌, map, head-eq_of_cons-eq, tail-eq_of_cons-eq, nil≢cons, cons≢nil}
use mathlib.Core.Option.{Option, none, some}
use Rattle.utf8.specs.Chars.{All, nil, cons}
use Rattle.model.specs.Text.{sum}
use Rattle.model.proofs.Lists.{first_of, rest_of, all_map}

-- ---- a fact of what a test picks, from the fact of each of the two

module _ {A : Type 0} (P : A → Type 0) where
  pub of_cond : (b : Bool) {x y : A} → (b ≡ true → P x) → (b ≡ false → P y) → P (cond b x y)
  of_cond true f g = f refl
  of_cond false f g = g refl

  -- a guard that lets the good case pass
  pub of_guard : (b : Bool) {x y : A} → (b ≡ false → P x) → (b ≡ true → P y) → P (cond (not b) x y)
  of_guard true f g = g refl
  of_guard false f g = f refl

  pub of_either : (b : Bool) {x y : A} → P x → P y → P (elim b as (λ _. A) [ true ↦ x | false ↦ y ])
  of_either true f g = f
  of_either false f g = g

  pub of_option : {B : Type 0} (o : Option B) {x : A} {f : B → A} → (o ≡ none → P x) → ((b : B) → o ≡ some b → P (f b)) → P (elim o as (λ _. A) [ none ↦ x | some b ↦ f b ])
  of_option none h k = h refl
  of_option (some b) h k = k b refl

  pub of_number : (n : ℕ) {x : A} {f : ℕ → A} → (n ≡ 0 → P x) → ((k : ℕ) → n ≡ suc k → P (f k)) → P (elim n as (λ _. A) [ zero ↦ x | suc k ↦ f k ])
  of_number zero h k = h refl
  of_number (suc n) h k = k n refl

-- ---- `All`

module _ {A : Type 0} where
  -- what holds for each b, element by element
  pub all_each : {B : Type 0} {P : B → A → Type 0} (xs : List A) → ((b : B) → All (P b) xs) → All (λ x. (b : B) → P b x) xs
  all_each [] h = nil
  all_each (x ∷ xs) h = cons (λ b. first_of (h b)) (all_each xs (λ b. rest_of (h b)))

-- ---- `sum`

module _ {A : Type 0} (f g : A → ℕ) (below : (x : A) → g x ≤ f x) where
  pub sum_le : (xs : List A) → sum g xs ≤ sum f xs
  sum_le [] = omega arith
  sum_le (x ∷ xs) = omega (arith, below x, sum_le xs)

  -- where g is at most f, the sums without one element are ordered too
  pub sum_others : (xs : List A) → All (λ x. sum g xs + f x ≤ sum f xs + g x) xs
  sum_others [] = nil
  sum_others (x ∷ xs) =
      cons {x = x} (omega (arith, sum_le xs)) (all_map (λ y h. omega (arith, below x)) (sum_others xs))

-- ---- two lists with equal keys

module _ {A B : Type 0} (key : A → B) where
  pub all_key : (P : A → Type 0) → ((x y : A) → key y ≡ key x → P x → P y) → (xs ys : List A) → map key ys ≡ map key xs → All P xs → All P ys
  all_key P f [] [] e h = nil
  all_key P f [] (y ∷ ys) e h = absurd (cons≢nil e)
  all_key P f (x ∷ xs) [] e h = absurd (nil≢cons e)
  all_key P f (x ∷ xs) (y ∷ ys) e (cons h k) = cons (f x y (head-eq_of_cons-eq e) h) (all_key P f xs ys (tail-eq_of_cons-eq e) k)

  pub sum_key : (f : A → ℕ) → ((x y : A) → key y ≡ key x → f y ≡ f x) → (xs ys : List A) → map key ys ≡ map key xs → sum f ys ≡ sum f xs
  sum_key f g [] [] e = refl
  sum_key f g [] (y ∷ ys) e = absurd (cons≢nil e)
  sum_key f g (x ∷ xs) [] e = absurd (nil≢cons e)
  sum_key f g (x ∷ xs) (y ∷ ys) e = omega (arith, g x y (head-eq_of_cons-eq e), sum_key f g xs ys (tail-eq_of_cons-eq e))
