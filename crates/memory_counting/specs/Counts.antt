-- What a test decides, and the sums that it counts by.
use Rattle.std.specs.Prelude.{◌≡◌, Bool, true, false, ◌&&◌, cond, ℕ, zero, suc, ◌+◌, leb, ltb}

-- the test r says whether P holds
pub record Decides (r : Bool) (P : Type 0) : Type 0 where
  pub yes : r ≡ true → P
  pub no : r ≡ false → P → ⊥

-- f 0 + f 1 + .. + f (n - 1)
abbrev pub sum_to : (ℕ → ℕ) → ℕ → ℕ
sum_to f zero = 0
sum_to f (suc n) = sum_to f n + f n

-- 1 if a ≤ b < e, else 0
unfoldable pub indicator : ℕ → ℕ → ℕ → ℕ
indicator a e b = cond (leb a b && ltb b e) 1 0
