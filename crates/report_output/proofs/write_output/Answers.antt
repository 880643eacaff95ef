use mathlib.Core.Path.{ap}
use Prim.Native.Nat.{◌+◌}
use native.Mathlib.Omega.{arith}
use Rattle.memory_table.specs.declared.Row.{Row}
use Rattle.memory_fragments.proofs.Output.{ready}
use Rattle.report_output.proofs.Writing.{sectioning_none, sectioning_done, sectioning_row, sectioning_requires, sectioning_more}
use Rattle.report_output.proofs.write_output.Goals as goal

pub get_row-z-requires : goal.get_row-z-requires
get_row-z-requires c = omega (arith, c.requires.well_formed.readable.linked.room)

pub overflow_add-stop : goal.overflow_add-stop
overflow_add-stop c = omega (arith, (ready _ _ _ _ c.requires.well_formed).narrow.0, ap (λ (r : Row). r.start) c.get_row-z.ensures)

pub loop-section-init : goal.loop-section-init
loop-section-init c = sectioning_none _ _ _ _ _ _ c.requires.well_formed (ap (λ (r : Row). r.start + 2) c.get_row-z.ensures) c.requires.store_in_bounds

pub section_row-r-requires : goal.section_row-r-requires
section_row-r-requires c = sectioning_row c.loop-section.invariant c.requires.well_formed c.loop-section-test.true

pub write_chunk-o-requires : goal.write_chunk-o-requires
write_chunk-o-requires c =
    let k = sectioning_requires c.loop-section.invariant c.requires.well_formed
    c.loop-section-test.true _ c.section_row-r.ensures in record { entry_in = k.0; span_in = k.1; row_in_bounds = k.2 }

pub loop-section-preserved : goal.loop-section-preserved
loop-section-preserved c =
    sectioning_more c.loop-section.invariant
    c.requires.well_formed
    c.loop-section-test.true _ c.section_row-r.ensures
    c.write_chunk-o.ensures

pub shape_of-out : goal.shape_of-out
shape_of-out c = c.loop-section.invariant.writing.same

pub returns : goal.returns
returns c = sectioning_done c.loop-section.invariant c.requires.well_formed c.loop-section-test.false
