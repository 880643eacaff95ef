use mathlib.Core.Path.{◌≡◌}
use Prim.Native.Nat.{◌*◌, ◌-◌, ◌≤◌}
use lib.ListN.{length}
use Rattle.memory_used.specs.Above.{Desk}
use Rattle.inner_calls.proofs.all.Given as goal

abbrev pub invariant-loop-i : goal.invariant-loop-i
invariant-loop-i l =
    Desk l.source l.chunks l.pieces l.store l.used × (l.i ≤ l.n) × (l.n * 6 ≤ length l.calls) × (l.n ≤ length l.numbers) × (l.n ≤ 0xFFFFFFFF)
    × (length l.chunks ≡ length l.initial.chunks) × (length l.pieces ≡ length l.initial.pieces) × (length l.store ≡ length l.initial.store) × (length l.numbers ≡ length l.initial.numbers)

abbrev pub decreases-loop-i : goal.decreases-loop-i
decreases-loop-i l = l.n - l.i
