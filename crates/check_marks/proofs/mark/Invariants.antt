-- The invariant: the places from at up to i have a mark, the others what they had, and `seen` is 0 exactly if none of them had one.
use Prim.Native.Nat.{◌+◌, ◌≤◌}
use Rattle.check_marks.proofs.Marking.{Marking}
use Rattle.check_marks.proofs.mark.Given as goal

abbrev pub invariant-loop-i : goal.invariant-loop-i
invariant-loop-i l = (l.at ≤ l.i) × (l.i ≤ l.at + l.n) × Marking l.initial.marks l.at l.i l.marks l.seen
