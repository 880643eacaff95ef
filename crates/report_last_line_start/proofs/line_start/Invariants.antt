-- `line_start::line_start` meets its contract.
use Rattle.report_last_line_start.proofs.Lines.{AtSection, AtFragment, AtByte}
use Rattle.report_last_line_start.proofs.line_start.Given as goal

abbrev pub invariant-loop-at : goal.invariant-loop-at
invariant-loop-at l = AtByte l.desk.source.now l.desk.chunks.now l.desk.pieces.now l.desk.store.now l.section l.item l.t l.at l.n

abbrev pub decreases-loop-at : goal.decreases-loop-at
decreases-loop-at l = l.at

abbrev pub invariant-loop-item : goal.invariant-loop-item
invariant-loop-item l = AtFragment l.desk.source.now l.desk.chunks.now l.desk.pieces.now l.desk.store.now l.section l.item l.at l.n

abbrev pub decreases-loop-item : goal.decreases-loop-item
decreases-loop-item l = l.item

abbrev pub invariant-done : goal.invariant-done
invariant-done l = AtSection l.desk.source.now l.desk.chunks.now l.desk.pieces.now l.desk.store.now l.section l.row l.item l.at l.n l.before

abbrev pub decreases-done : goal.decreases-done
decreases-done l = l.section
