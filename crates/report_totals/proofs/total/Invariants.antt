-- `totals::total` meets its contract.
use Rattle.report_measures.specs.Measures.{measure_of}
use Rattle.report_totals.proofs.Counting.{Counting}
use Rattle.report_totals.proofs.total.Given as goal

abbrev pub invariant-loop-t : goal.invariant-loop-t
invariant-loop-t l = Counting (measure_of l.m) l.fn.texts l.t-iterator l.n
