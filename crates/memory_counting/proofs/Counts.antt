-- Laws of what `Counts` in specs/ defines.
use mathlib.Core.Bool.{cond}
use Prim.Native.Nat.{ℕ}
use lib.Dec.{eqb}

-- 1 if x and i are the same number, else 0
unfoldable pub one : ℕ → ℕ → ℕ
one x i = cond (eqb x i) 1 0
