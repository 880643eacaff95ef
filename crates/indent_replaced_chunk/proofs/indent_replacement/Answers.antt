use native.Mathlib.Omega.{arith}
use Rattle.memory_list.proofs.Insert.{room_i}
use Rattle.indent_replaced_chunk.proofs.Replacement.{replacement_asks, replacement_written, replacement_short}
use Rattle.indent_replaced_chunk.proofs.indent_replacement.Goals as goal

pub get_row-r-requires : goal.get_row-r-requires
get_row-r-requires c = room_i c.args.t.now c.args.i c.requires.linked c.requires.placed

pub write_indented-requires : goal.write_indented-requires
write_indented-requires c = let d = replacement_asks c.requires c.get_row-r.ensures in record { n_in_bounds = d.0; n_value = d.1; byte_in_bounds = (c.requires.byte_in, c.requires.narrow) }

pub returns-in_err-w : goal.returns-in_err-w
returns-in_err-w c = rw c.from_residual.ensures (replacement_short c.args.store.now c.args.t.now c.args.i c.args.byte _ c.args.indentor.now c.args.mark c.get_row-r.ensures c.in_err-w.ensures)

pub overflow_sub-w : goal.overflow_sub-w
overflow_sub-w c = omega (arith, c.in_ok-w.ensures.end_is)

pub put_row-requires : goal.put_row-requires
put_row-requires c = room_i c.args.t.now c.args.i c.requires.linked c.requires.placed

pub returns : goal.returns
returns c = replacement_written c.args.indentor.now c.args.mark c.requires c.get_row-r.ensures c.in_ok-w.ensures c.with_text.ensures c.put_row.ensures c.put_row.auto.t
