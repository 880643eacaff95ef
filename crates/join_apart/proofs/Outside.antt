-- Positions and replaced ranges: the test of a record that a move must spare.
use Prim.Native.Nat.{ℕ, ◌≤◌, ◌<◌}
use native.Mathlib.Omega.{arith}
use native.Mathlib.Decide.{dec_lt}
use mathlib.Core.Path.{◌≡◌}
use mathlib.Core.Bool.{◌&&◌, not}
use lib.Dec.{ltb, leb}
use borrow.Author.Tests.{lt-ltb, le-ltb, le-leb, lt-leb}

-- not strictly inside: at the start or before, or at the end or behind
pub outside_left : (from to p : ℕ) → p ≤ from → leb p from ≡ not (ltb from p && ltb p to)
outside_left from to p h = rw (le-leb p from h, le-ltb from p h)

pub outside_right : (from to p : ℕ) → from < p → leb to p ≡ not (ltb from p && ltb p to)
outside_right from to p h =
    elim (dec_lt p to) [
      | yes l ↦ rw (lt-ltb from p (omega arith), lt-ltb p to l, lt-leb to p l)
      | no l ↦ rw (lt-ltb from p (omega arith), le-ltb p to (omega arith), le-leb to p (omega arith))
    ]
