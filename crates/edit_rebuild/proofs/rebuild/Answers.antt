use Rattle.memory.proofs.Desks.{sized_as}
use Rattle.edit_rebuild.proofs.Lay.{own_in}
use Rattle.edit_rebuild.proofs.LayAll.{own_room, lay_start, rows_fit}
use Rattle.edit_rebuild.proofs.rebuild.Goals as goal

pub lay_row-l-requires : goal.lay_row-l-requires
lay_row-l-requires c = let e = c.own_row.ensures in let f = c.get_row-z.ensures in record { entry_in = rw (e, f) (own_in c.requires.readable); room_entry = rw (e, f) (own_room _ _ _ c.requires.s_value c.requires.sized) }

pub lay_rest-requires : goal.lay_rest-requires
lay_rest-requires c = let e = c.own_row.ensures in let f = c.get_row-z.ensures in let z = c.requires.sized in let lp = c.lay_row-l.auto.pieces in let ls = c.lay_row-l.auto.store in record { readable = c.requires.readable; lay_at = rw f (lay_start (rw (e, f) at c.lay_row-l.ensures) (rw f at c.top_row.ensures) c.put_row.ensures c.requires.s_value lp ls); sized = sized_as (record { chunks = c.put_row.auto.t; pieces = lp; store = ls }) z; n_in_bounds = rw (f, c.put_row.auto.t) (rows_fit _ _ _ c.requires.s_value z) }
