use mathlib.Core.Path.{◌≡◌}
use Prim.Native.Nat.{◌+◌, min}
use Rattle.memory_layout.specs.Layout.{BYTES_PAST}
use Rattle.edit_scratch.proofs.Counting.{first_bytes_of}
use Rattle.edit_scratch.proofs.run_bytes.Given as goal

abbrev pub invariant-loop-i : goal.invariant-loop-i
invariant-loop-i l = l.sum ≡ min (l.total + first_bytes_of l.p l.s l.at l.i) BYTES_PAST
