use mathlib.Core.Path.{ap, subst}
use native.Mathlib.Omega.{arith}
use Rattle.memory_table.specs.declared.Row.{Row}
use Rattle.memory_table.specs.Order.{entry_of}
use Rattle.memory_list.proofs.Insert.{next_f, prev_f, room_i}
use Rattle.memory_list.specs.Split.{RowSet, first, second}
use Rattle.memory_list.proofs.Split.{row_set, split_row, placed_still}
use Rattle.memory_list.proofs.split_row.Goals as goal

pub get_row-c-requires : goal.get_row-c-requires
get_row-c-requires c = room_i c.args.t.now c.args.i c.requires.linked c.requires.placed

pub put_row-requires : goal.put_row-requires
put_row-requires c = room_i c.args.t.now c.args.i c.requires.linked c.requires.placed

pub link_in-requires : goal.link_in-requires
link_in-requires c =
    let r = row_set c.args.t.now c.put_row.new.t c.args.i _ c.requires.linked c.requires.placed c.put_row.ensures (ap next_f c.get_row-c.ensures)
    (ap prev_f c.get_row-c.ensures) c.put_row.auto.t in record { linked = r.linked; placed = placed_still c.args.t.now c.put_row.new.t c.args.i c.requires.placed r; t_in_bounds = omega (arith, r.count, c.requires.t_in_bounds, c.put_row.auto.t) }

pub returns : goal.returns
returns c =
    let t = c.args.t.now in
    let i = c.args.i in
    let p = c.args.p in
    let r = row_set t c.put_row.new.t i _ c.requires.linked c.requires.placed c.put_row.ensures (ap next_f c.get_row-c.ensures) (ap prev_f c.get_row-c.ensures) c.put_row.auto.t in
    split_row t c.put_row.new.t c.link_in.new.t p i _ c.requires.linked c.requires.placed
    (subst (RowSet t c.put_row.new.t i) (ap (λ (x : Row). first p (entry_of x)) c.get_row-c.ensures) r)
    (ap (λ (x : Row). second p (entry_of x)) c.get_row-c.ensures) c.link_in.ensures
