-- The bits joined so far are at least as large as each byte passed.
use Prim.Native.Nat.{ℕ, ◌≤◌, ◌<◌, ◌+◌}
use lib.ListN.{get_or}
use Rattle.utf8.proofs.validity.joined_bits.Given as goal

abbrev pub invariant-loop-b : goal.invariant-loop-b
invariant-loop-b l = (k : ℕ) → k < l.b-index → get_or l.s (l.i + k) 0 ≤ l.bits
