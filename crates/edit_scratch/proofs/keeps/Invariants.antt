use Rattle.memory_table.specs.Order.{order}
use Rattle.memory_list.proofs.Gathers.{Gathered}
use Rattle.edit_scratch.proofs.Counting.{CountOf}
use Rattle.edit_scratch.proofs.keeps.Given as goal

abbrev pub invariant-loop-r : goal.invariant-loop-r
invariant-loop-r l = Gathered (CountOf l.t l.p l.s l.c.pieces l.c.bytes) l.t (order l.t) l.r-iterator
