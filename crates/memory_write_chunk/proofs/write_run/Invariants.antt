use Rattle.memory_texts.proofs.Loops.{texts, Turn}
use Rattle.memory_write_chunk.proofs.write_run.Given as goal

abbrev pub invariant-loop-i : goal.invariant-loop-i
invariant-loop-i l = Turn l.initial.out l.place (texts l.pieces l.store l.first) l.i l.out l.o
