-- `add_row` meets its contract: the run that is read is the one that the contract names, so there is room to lengthen it.
use native.Mathlib.Omega.{arith}
use Rattle.edit_insert_row.proofs.Adding.{room_read, row_added}
use Rattle.edit_insert_row.proofs.add_row.Goals as goal

pub lengthen-first-requires : goal.lengthen-first-requires
lengthen-first-requires c = room_read c.args.outro c.args.t.now c.args.i c.get_row-r.result c.side-run.result c.get_row-r.ensures c.side-run.ensures c.requires.top_room

pub overflow_add-n : goal.overflow_add-n
overflow_add-n c =
    let k = room_read c.args.outro c.args.t.now c.args.i c.get_row-r.result c.side-run.result c.get_row-r.ensures c.side-run.ensures c.requires.top_room in
    omega (arith, k.rows_in, c.requires.p_len_bound)

pub overflow_add-result : goal.overflow_add-result
overflow_add-result c =
    let k = room_read c.args.outro c.args.t.now c.args.i c.get_row-r.result c.side-run.result c.get_row-r.ensures c.side-run.ensures c.requires.top_room in
    omega (arith, k.rows_in, c.requires.p_len_bound, c.lengthen-first.ensures.to)

pub returns : goal.returns
returns c =
    row_added c.args.outro c.args.t.now c.args.i c.get_row-r.result c.side-run.result c.get_row-r.ensures c.side-run.ensures c.args.front (c.args.text_at, c.args.text_n) c.args.row
    {p = c.args.p.now} {p' = c.lengthen-first.new.p}
    c.lengthen-first.result c.lengthen-first.ensures c.with_side.ensures c.put_row.ensures
