-- The invariant: the runs and texts of the first i rows lie inside and apart, the marks are theirs, and `used` is what they use.
use Rattle.check_texts_apart.proofs.Places.{RowsTo}
use Rattle.check_texts_apart.proofs.mark_rows.Given as goal

abbrev pub invariant-loop-i : goal.invariant-loop-i
invariant-loop-i l = RowsTo l.size l.t l.pieces l.initial.rows l.initial.marks l.initial.used l.i l.rows l.marks l.used
