-- The invariant: the rows before i are joined, the spans of rows 1 to i are not empty, and row i ends at e.
use Rattle.check_in_order.proofs.Passed.{Passed}
use Rattle.check_in_order.proofs.in_order.Given as goal

abbrev pub invariant-loop-i : goal.invariant-loop-i
invariant-loop-i l = Passed l.source l.t l.n l.i l.e
