-- `slice::slice_to` meets its contract.
use mathlib.Core.Path.{sym, ◌∙◌}
use native.Mathlib.Omega.{arith}
use Rattle.report_slice.proofs.Giving.{given_nothing, found_in, found_row, found_fits, found_start, given_11, given_walk}
use Rattle.report_slice.proofs.slice_to.Goals as goal

pub returns-in_default : goal.returns-in_default
returns-in_default c = given_nothing _ _ _ _ _ _ _ c.in_default.ensures

pub get_row-r-requires : goal.get_row-r-requires
get_row-r-requires c =
    let at = c.in-Some.field-0 in
    found_fits c.args.desk.source.now _ c.args.desk.pieces.now c.args.desk.store.now _ _ at.chunk at.row c.in-Some.ensures c.requires.readable.linked

pub returns-then-starts_inside : goal.returns-then-starts_inside
returns-then-starts_inside c =
    let at = c.in-Some.field-0 in
    given_11 _ _ _ _ _ _ at.chunk at.row c.in-Some.ensures c.requires.readable.linked _ c.get_row-r.ensures _
    (sym c.starts_inside.ensures ∙ c.if-starts_inside.true)

pub overflow_sub-range : goal.overflow_sub-range
overflow_sub-range c =
    let at = c.in-Some.field-0 in
    omega (
      arith,
      found_start c.args.desk.source.now _ c.args.desk.pieces.now c.args.desk.store.now _ _ at.chunk at.row c.in-Some.ensures
          c.requires.readable.linked _ c.get_row-r.ensures,
    )

pub slice_into-requires-clause-chunk_bound : goal.slice_into-requires-clause-chunk_bound
slice_into-requires-clause-chunk_bound c =
    let at = c.in-Some.field-0 in
    let l = c.requires.readable.linked in (
      found_in c.args.desk.source.now _ c.args.desk.pieces.now c.args.desk.store.now _ _ at.chunk at.row c.in-Some.ensures l,
      found_row c.args.desk.source.now _ c.args.desk.pieces.now c.args.desk.store.now _ _ at.chunk at.row c.in-Some.ensures l,
    )

pub returns : goal.returns
returns c =
    let at = c.in-Some.field-0 in
    given_walk _ _ _ _ _ _ at.chunk at.row c.in-Some.ensures c.requires.readable.linked _
    c.get_row-r.ensures _ _ _ _
    (sym c.starts_inside.ensures ∙ c.if-starts_inside.false)
    c.slice_into.ensures
