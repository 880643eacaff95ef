-- `slice::find_start` meets its contract.
use Rattle.report_slice.proofs.Seek.{Seeking}
use Rattle.report_slice.proofs.find_start.Given as goal

abbrev pub invariant-loop-k : goal.invariant-loop-k
invariant-loop-k l = Seeking l.chunks l.start l.end l.n l.k l.row
