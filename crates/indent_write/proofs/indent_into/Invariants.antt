use Rattle.indent_write.proofs.Turns.{Putting}
use Rattle.indent_write.proofs.indent_into.Given as goal

abbrev pub invariant-loop-b : goal.invariant-loop-b
invariant-loop-b l = Putting l.initial.out l.place l.indentor l.mark l.text l.b-index l.out l.end l.m
