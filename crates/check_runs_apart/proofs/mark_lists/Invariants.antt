-- The invariant: the first k runs lie inside and apart, the marks are theirs, and `all` is what they use.
use Rattle.check_runs_apart.proofs.Runs.{ListsTo}
use Rattle.check_runs_apart.proofs.mark_lists.Given as goal

abbrev pub invariant-loop-k : goal.invariant-loop-k
invariant-loop-k l = ListsTo l.size l.t l.i l.pieces l.initial.rows l.initial.marks l.initial.all l.k l.rows l.marks l.all
