-- `sheet_lines::put_lines` meets its contract: the invariant is `Printing`: the lines put and those of the records left are all lines.
use Rattle.sheet_lines.proofs.Printing.{Printing}
use Rattle.sheet_lines.proofs.put_lines.Given as goal

abbrev pub invariant-loop-i : goal.invariant-loop-i
invariant-loop-i l = Printing l.records l.n l.answers l.initial.out l.out l.at l.i l.end
