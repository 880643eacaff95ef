-- After i turns the first i are those of `items`.
use mathlib.Core.Path.{◌≡◌}
use mathlib.Core.List.{◌++◌}
use Prim.Native.Nat.{◌≤◌}
use lib.ListN.{length, take, drop}
use Rattle.memory_table.proofs.put.Given as goal

abbrev pub invariant-loop-i : goal.invariant-loop-i
invariant-loop-i g l = (l.i-end ≡ length l.items) × (l.i ≤ l.i-end) × (length l.out ≡ length l.initial.out) × (l.out ≡ take l.i l.items ++ drop l.i l.initial.out)
