-- `indent_string::behind_spaces` meets its contract.
use Rattle.report_indent_string.proofs.Tallies.{Spacing}
use Rattle.report_indent_string.proofs.behind_spaces.Given as goal

abbrev pub invariant-loop-i : goal.invariant-loop-i
invariant-loop-i l = Spacing l.s l.at l.i
