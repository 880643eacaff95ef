-- Stretches of numbers, one behind the other, and the sum of as many ones.
use mathlib.Core.Path.{◌≡◌, refl}
use Prim.Native.Nat.{ℕ, zero, suc, ◌+◌, ◌≤◌}
use native.Mathlib.Omega.{arith}
use native.Mathlib.Decide.{dec_lt}
use Rattle.memory_counting.specs.Counts.{indicator, sum_to}
use Rattle.memory_counting.proofs.Sums.{indicator_in, indicator_before, indicator_after}

pub indicator_join : (a b e x : ℕ) → a ≤ b → b ≤ e → indicator a b x + indicator b e x ≡ indicator a e x
indicator_join a b e x h k =
    elim (dec_lt x a) [
      | yes p ↦ omega (arith, indicator_before a b x p, indicator_before b e x (omega arith), indicator_before a e x p)
      | no p ↦ elim (dec_lt x b) [
        | yes q ↦ omega (arith, indicator_in a b x (omega arith) q, indicator_before b e x q, indicator_in a e x (omega arith) (omega arith))
        | no q ↦ elim (dec_lt x e) [
          | yes r ↦ omega (arith, indicator_after a b x (omega arith), indicator_in b e x (omega arith) r, indicator_in a e x (omega arith) r)
          | no r ↦ omega (arith, indicator_after a b x (omega arith), indicator_after b e x (omega arith), indicator_after a e x (omega arith))
        ]
      ]
    ]

pub indicator_none : (a x : ℕ) → indicator a a x ≡ 0
indicator_none a x = elim (dec_lt x a) [ yes h ↦ indicator_before a a x h | no h ↦ indicator_after a a x (omega arith) ]

pub sum_ones_is : (n : ℕ) → sum_to (λ k. 1) n ≡ n
sum_ones_is zero = refl
sum_ones_is (suc n) = omega (arith, sum_ones_is n)
