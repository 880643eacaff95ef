use Rattle.memory_table.specs.Order.{order}
use Rattle.memory_list.proofs.Gathers.{Gathered}
use Rattle.edit_room_above.proofs.Passing.{LiveOf}
use Rattle.edit_room_above.proofs.live.Given as goal

abbrev pub invariant-loop-r : goal.invariant-loop-r
invariant-loop-r l = Gathered (LiveOf l.t l.p l.s l.c) l.t (order l.t) l.r-iterator
