-- Sums over a list: in either order, and over one that is tabulated.
use mathlib.Core.Path.{◌≡◌, refl, sym}
use mathlib.Core.List.{List, [], ◌∷◌}
use Prim.Native.Nat.{ℕ, zero, suc}
use native.Mathlib.Omega.{arith}
use Rattle.model.specs.Text.{sum}
use Rattle.model.proofs.Lists.{sum_append}
use Rattle.memory.specs.Layout.{tabulate}
use Rattle.memory_counting.specs.Counts.{sum_to}
use Rattle.memory_counting.proofs.Sums.{sum_zero, sum_add}

module _ {A : Type 0} where
  -- two sums, in either order
  pub sum_swap : (f : A → ℕ → ℕ) (xs : List A) (m : ℕ) → sum (λ x. sum_to (f x) m) xs ≡ sum_to (λ b. sum (λ x. f x b) xs) m
  sum_swap f [] m = sym (sum_zero (λ b. 0) m (λ k h. refl))
  sum_swap f (x ∷ xs) m = omega (arith, sum_swap f xs m, sum_add (f x) (λ b. sum (λ x. f x b) xs) m)

  pub sum_tabulate : (f : A → ℕ) (g : ℕ → A) (n : ℕ) → sum f (tabulate g n) ≡ sum_to (λ k. f (g k)) n
  sum_tabulate f g zero = refl
  sum_tabulate f g (suc n) = omega (arith, sum_append f (tabulate g n) (g n ∷ []), sum_tabulate f g n)
