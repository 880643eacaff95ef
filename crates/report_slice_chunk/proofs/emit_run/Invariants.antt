-- `chunk_slice::emit_run` meets its contract.
use Rattle.report_slice_chunk.proofs.Loops.{texts, Turn}
use Rattle.report_slice_chunk.proofs.emit_run.Given as goal

abbrev pub invariant-loop-i : goal.invariant-loop-i
invariant-loop-i l = Turn l.write l.initial.out l.place (texts l.pieces l.store l.first) l.i l.out l.o
