use mathlib.Core.Path.{sym, ap, ◌∙◌}
use native.Mathlib.Omega.{arith}
use Rattle.memory_table.specs.declared.Row.{Row}
use Rattle.report_slice_walk.proofs.Slicing.{slicing_none, slicing_small, slicing_done, slicing_row, slicing_refused, slicing_requires, slicing_next_small, slicing_last}
use Rattle.report_slice_walk.proofs.Slicing.{slicing_more}
use Rattle.report_slice_walk.proofs.slice_walk.Goals as goal

pub get_row-z-requires : goal.get_row-z-requires
get_row-z-requires c = omega (arith, c.requires.well_formed.readable.linked.room)

pub loop-k-init : goal.loop-k-init
loop-k-init c =
    slicing_none _ _ _ _ _ _ _ _ _ _ _ _ c.requires.well_formed (ap (λ (r : Row). r.start) c.get_row-z.ensures)
    c.requires.chunk_bound.0 c.requires.chunk_bound.1

pub get_row-r-requires : goal.get_row-r-requires
get_row-r-requires c = slicing_row c.loop-k.invariant c.requires.well_formed c.requires.fits c.loop-k-test.true

pub shape_of-out-then-ends_inside : goal.shape_of-out-then-ends_inside
shape_of-out-then-ends_inside c = c.loop-k.invariant.same

pub returns-then-ends_inside : goal.returns-then-ends_inside
returns-then-ends_inside c =
    slicing_refused c.loop-k.invariant c.requires.well_formed c.requires.fits c.loop-k-test.true _
    c.get_row-r.ensures (sym c.ends_inside.ensures ∙ c.if-ends_inside.true)

pub chunk_slice-o-requires : goal.chunk_slice-o-requires
chunk_slice-o-requires c =
    let k = slicing_requires c.loop-k.invariant c.requires.well_formed c.requires.fits c.loop-k-test.true _
    c.get_row-r.ensures (sym c.ends_inside.ensures ∙ c.if-ends_inside.false) in record { entry_in = k.0; span_in = k.1; room = k.2 }

pub overflow_cast-result : goal.overflow_cast-result
overflow_cast-result c =
    let k = slicing_next_small c.loop-k.invariant c.requires.well_formed c.requires.fits
    c.loop-k-test.true _
    c.get_row-r.ensures
    (sym c.ends_inside.ensures ∙ c.if-ends_inside.false)
    c.chunk_slice-o.ensures c.chunk_slice-o.auto.out in
    omega (arith, k)

pub shape_of-out-then-contains_end : goal.shape_of-out-then-contains_end
shape_of-out-then-contains_end c = c.chunk_slice-o.auto.out ∙ c.loop-k.invariant.same

pub returns-then-contains_end : goal.returns-then-contains_end
returns-then-contains_end c =
    slicing_last c.loop-k.invariant c.requires.well_formed c.requires.fits
    c.loop-k-test.true _
    c.get_row-r.ensures
    (sym c.ends_inside.ensures ∙ c.if-ends_inside.false)
    c.chunk_slice-o.ensures c.chunk_slice-o.auto.out
    (sym c.contains_end.ensures ∙ c.if-contains_end.true)

pub loop-k-preserved : goal.loop-k-preserved
loop-k-preserved c =
    slicing_more c.loop-k.invariant c.requires.well_formed c.requires.fits
    c.loop-k-test.true _
    c.get_row-r.ensures
    (sym c.ends_inside.ensures ∙ c.if-ends_inside.false)
    c.chunk_slice-o.ensures c.chunk_slice-o.auto.out
    (sym c.contains_end.ensures ∙ c.if-contains_end.false)

pub overflow_cast-result-2 : goal.overflow_cast-result-2
overflow_cast-result-2 c = omega (arith, slicing_small c.loop-k.invariant c.requires.well_formed c.requires.fits)

pub shape_of-out : goal.shape_of-out
shape_of-out c = c.loop-k.invariant.same

pub returns : goal.returns
returns c = slicing_done c.loop-k.invariant c.requires.well_formed c.requires.fits c.loop-k-test.false
