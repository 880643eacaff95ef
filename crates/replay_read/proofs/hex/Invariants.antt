use Rattle.std.proofs.Common.{◌≤◌, length}
use Rattle.replay_read.proofs.hex.Given as goal

abbrev pub invariant-loop-pair : goal.invariant-loop-pair
invariant-loop-pair l =
    (goal.iterator-loop-pair).can_next l.pair-iterator ×
    (goal.iterator-loop-pair).is_finite l.pair-iterator × (l.at ≤ l.end) × (l.end ≤ length l.out)
