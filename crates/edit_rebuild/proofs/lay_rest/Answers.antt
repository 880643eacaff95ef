use mathlib.Core.Path.{ap}
use Rattle.memory_table.specs.declared.Row.{Row}
use Rattle.edit_rebuild.proofs.LayAll.{loop_row, loop_in, loop_room, loop_more, loop_done}
use Rattle.edit_rebuild.proofs.lay_rest.Goals as goal

pub get_row-r-requires : goal.get_row-r-requires
get_row-r-requires c = loop_row c.requires.readable c.requires.sized c.loop-k.invariant c.loop-k-test.true

pub lay_row-l-requires : goal.lay_row-l-requires
lay_row-l-requires c = let e = c.get_row-r.ensures in record { entry_in = rw e (loop_in c.requires.readable c.requires.sized c.loop-k.invariant c.loop-k-test.true); room_entry = rw e (loop_room c.requires.readable c.requires.sized c.loop-k.invariant c.loop-k-test.true) }

pub loop-k-preserved : goal.loop-k-preserved
loop-k-preserved c =
    let e = c.get_row-r.ensures in
    rw (ap (λ (r : Row). r.next) e)
    (loop_more c.requires.readable c.requires.sized c.loop-k.invariant c.loop-k-test.true (rw e at c.lay_row-l.ensures) c.seq_row.ensures c.put_row.ensures c.put_row.auto.t
    c.lay_row-l.auto.pieces c.lay_row-l.auto.store)

pub returns : goal.returns
returns c = loop_done c.loop-k.invariant c.loop-k-test.false c.requires.n_in_bounds
