-- `filed_marks::sum` meets its contract.
use Rattle.filed_marks.proofs.Sums.{Summing}
use Rattle.filed_marks.proofs.sum.Given as goal

abbrev pub invariant-loop-i : goal.invariant-loop-i
invariant-loop-i l = Summing l.bytes l.i l.all
