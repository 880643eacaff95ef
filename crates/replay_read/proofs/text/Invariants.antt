use Rattle.std.proofs.Common.{◌≤◌, length}
use Rattle.replay_read.proofs.text.Given as goal

abbrev pub invariant-loop-piece : goal.invariant-loop-piece
invariant-loop-piece l =
    (goal.iterator-loop-piece).can_next l.piece-iterator ×
    (goal.iterator-loop-piece).is_finite l.piece-iterator × (l.n ≤ length l.out)
