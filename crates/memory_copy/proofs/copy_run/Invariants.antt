use Rattle.memory_texts.proofs.Loops.{texts, Carrying}
use Rattle.memory_copy.proofs.copy_run.Given as goal

abbrev pub invariant-loop-i : goal.invariant-loop-i
invariant-loop-i l =
    Carrying (texts l.pieces l.store l.first) l.initial.new_pieces l.initial.new_store l.initial.byte l.to.row l.i l.new_pieces l.new_store l.byte
