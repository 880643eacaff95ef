use mathlib.Core.Path.{ap}
use Prim.Native.Nat.{◌+◌}
use native.Mathlib.Omega.{arith}
use Rattle.memory_table.specs.declared.Row.{Row}
use Rattle.memory_list.proofs.Insert.{start_f, next_f, room_i, room_q, linked_in}
use Rattle.memory_list.proofs.link_in.Goals as goal

pub get_row-c-requires : goal.get_row-c-requires
get_row-c-requires c = room_i c.args.t.now c.args.i c.requires.linked c.requires.placed

pub put_row-requires-2 : goal.put_row-requires-2
put_row-requires-2 c = omega (arith, room_i c.args.t.now c.args.i c.requires.linked c.requires.placed, c.put_row.auto.t)

pub get_row-d-requires : goal.get_row-d-requires
get_row-d-requires c = omega (arith, room_q c.args.t.now c.args.i c.get_row-c.result.next c.requires.linked c.requires.placed (ap next_f c.get_row-c.ensures), c.put_row-2.auto.t, c.put_row.auto.t)

pub put_row-requires-3 : goal.put_row-requires-3
put_row-requires-3 c = omega (arith, room_q c.args.t.now c.args.i c.get_row-c.result.next c.requires.linked c.requires.placed (ap next_f c.get_row-c.ensures), c.put_row-2.auto.t, c.put_row.auto.t)

pub returns : goal.returns
returns c =
    linked_in c.args.t.now c.put_row.new.t c.put_row-2.new.t c.put_row-3.new.t c.put_row-4.new.t c.args.i (c.get_row-z.result.start + 1)
    c.get_row-c.result.next c.args.r c.get_row-c.result c.get_row-d.result c.get_row-y.result c.requires.linked c.requires.placed
    (ap (λ (x : Row). x.start + 1) c.get_row-z.ensures) (ap next_f c.get_row-c.ensures) c.get_row-c.ensures
    c.put_row.ensures c.put_row-2.ensures c.get_row-d.ensures c.put_row-3.ensures c.get_row-y.ensures c.put_row-4.ensures
    (omega (arith, ap start_f c.get_row-z.ensures, c.requires.t_in_bounds, c.put_row-4.auto.t, c.put_row-3.auto.t, c.put_row-2.auto.t, c.put_row.auto.t))
