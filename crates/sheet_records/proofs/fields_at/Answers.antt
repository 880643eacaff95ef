-- `sheet_records::fields_at` meets its contract: the fields are those of `parsed`.
use native.Mathlib.Omega.{arith}
use Rattle.sheet_records.proofs.Finding.{stands_room, taken_fields}
use Rattle.sheet_records.proofs.fields_at.Goals as goal

pub position-requires : goal.position-requires
position-requires c = let h = stands_room c.requires in omega (arith, c.requires.there, h.room, c.positions-p.ensures)

pub position-requires-2 : goal.position-requires-2
position-requires-2 c = let h = stands_room c.requires in omega (arith, c.requires.there, h.room, c.positions-p.ensures)

pub position-requires-3 : goal.position-requires-3
position-requires-3 c = let h = stands_room c.requires in omega (arith, c.requires.there, h.room, c.positions-p.ensures)

pub slice_bounds-result-count : goal.slice_bounds-result-count
slice_bounds-result-count c = let h = stands_room c.requires in omega (arith, h.room, c.positions-p.ensures)

pub slice_bounds-result-start : goal.slice_bounds-result-start
slice_bounds-result-start c = let h = stands_room c.requires in omega (arith, c.requires.there, h.room, c.positions-p.ensures)

pub returns : goal.returns
returns c =
    taken_fields c.requires c.positions-p.result c.position.result c.position-2.result c.position-3.result
    c.positions-p.ensures.0 c.position.ensures c.position-2.ensures c.position-3.ensures
