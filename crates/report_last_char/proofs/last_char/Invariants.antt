-- `last_char::last_char` meets its contract.
use Rattle.report_last_char.proofs.Backwards.{Seeking}
use Rattle.report_last_char.proofs.last_char.Given as goal

abbrev pub invariant-loop-section : goal.invariant-loop-section
invariant-loop-section l = Seeking l.desk.source.now l.desk.chunks.now l.desk.pieces.now l.desk.store.now l.section l.row
