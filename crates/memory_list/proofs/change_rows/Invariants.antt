use Rattle.memory_list.proofs.Changes.{Swept}
use Rattle.memory_list.proofs.change_rows.Given as goal

abbrev pub invariant-loop-k : goal.invariant-loop-k
invariant-loop-k l = Swept l.change l.a l.b l.initial.t l.t l.k
