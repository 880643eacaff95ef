use Rattle.indent_line_starts.proofs.Turns.{Seeking}
use Rattle.indent_line_starts.proofs.next_start.Given as goal

abbrev pub invariant-loop-i : goal.invariant-loop-i
invariant-loop-i l = Seeking l.text l.exclude l.mark l.at l.end l.m l.i
