use Rattle.std.proofs.Common.{◌-◌, ◌<◌, ◌≤◌, length}
use Rattle.replay_read.proofs.repeat.Given as goal

abbrev pub invariant-loop-to : goal.invariant-loop-to
invariant-loop-to l = (l.at < l.to) × (l.stop ≤ length l.out)

abbrev pub decreases-loop-to : goal.decreases-loop-to
decreases-loop-to l = l.stop - l.to
