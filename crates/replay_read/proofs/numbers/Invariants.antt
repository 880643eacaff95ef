use Rattle.std.proofs.Common.{◌≤◌, length}
use Rattle.replay_read.proofs.numbers.Given as goal

abbrev pub invariant-loop-part : goal.invariant-loop-part
invariant-loop-part l =
    (goal.iterator-loop-part).can_next l.part-iterator ×
    (goal.iterator-loop-part).is_finite l.part-iterator × (l.n ≤ length l.out)
