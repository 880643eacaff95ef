use Rattle.std.proofs.Common.{◌-◌, ◌≤◌, length}
use Rattle.utf8_vectors.proofs.print_codes.Given as goal

abbrev pub invariant-loop-code : goal.invariant-loop-code
invariant-loop-code g l = l.i ≤ length l.s

abbrev pub decreases-loop-code : goal.decreases-loop-code
decreases-loop-code g l = length l.s - l.i
