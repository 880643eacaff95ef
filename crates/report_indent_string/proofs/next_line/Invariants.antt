-- `indent_string::next_line` meets its contract.
use Rattle.report_indent_string.specs.Lines.{Seeking}
use Rattle.report_indent_string.proofs.next_line.Given as goal

abbrev pub invariant-loop-i : goal.invariant-loop-i
invariant-loop-i l = Seeking l.s l.at l.i
