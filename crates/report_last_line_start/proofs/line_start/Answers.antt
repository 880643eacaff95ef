use mathlib.Core.Path.{ap}
use Prim.Native.Nat.{◌+◌, ◌-◌}
use native.Mathlib.Omega.{arith}
use Rattle.memory_table.specs.declared.Row.{Row}
use Rattle.memory_fragments.proofs.Output.{ready}
use Rattle.report_last_line_start.proofs.Lines.{at_first, at_end, at_feed, before_row, before_in, size_row, section_in, section_out, row_shown}
use Rattle.report_last_line_start.proofs.Lines.{shown_is, fragment_in, fragment_out, byte_more, byte_short, below, item_in}
use Rattle.report_last_line_start.proofs.line_start.Goals as goal

pub get_row-z-requires : goal.get_row-z-requires
get_row-z-requires c = omega (arith, c.requires.readable.linked.room)

pub overflow_add-section : goal.overflow_add-section
overflow_add-section c = omega (arith, (ready _ _ _ _ c.requires).narrow.0, ap (λ (r : Row). r.start) c.get_row-z.ensures)

pub done-init : goal.done-init
done-init c = at_first _ _ _ _ c.requires _ (ap (λ (r : Row). r.start + 2) c.get_row-z.ensures)

pub overflow_sub-section : goal.overflow_sub-section
overflow_sub-section c = omega (arith, c.done-test.true)

pub section_row-r-requires : goal.section_row-r-requires
section_row-r-requires c = before_in _ _ _ _ c.requires _ _ _ _ _ _ c.done.invariant c.done-test.true

pub overflow_add-item : goal.overflow_add-item
overflow_add-item c =
    omega (
      arith,
      (ready _ _ _ _ c.requires).narrow.1
          (c.done.section - 1),
      size_row _ _ _ _ c.requires _ _ _ _ _ _
          c.done.invariant c.done-test.true _ c.section_row-r.ensures,
    )

pub overflow_add-item-in-done : goal.overflow_add-item-in-done
overflow_add-item-in-done c =
    omega (
      arith,
      (ready _ _ _ _ c.requires).narrow.1
          (c.done.section - 1),
      size_row _ _ _ _ c.requires _ _ _ _ _ _
          c.done.invariant c.done-test.true _ c.section_row-r.ensures,
    )

pub loop-item-init : goal.loop-item-init
loop-item-init c =
    section_in _ _ _ _ c.requires _ _ _ _ _ _
    c.done.invariant c.done-test.true _ c.section_row-r.ensures

pub overflow_sub-item : goal.overflow_sub-item
overflow_sub-item c = omega (arith, c.loop-item-test.true)

pub fragment_of-t-requires : goal.fragment_of-t-requires
fragment_of-t-requires c =
    let k = row_shown _ _ _ _ c.requires _ _ _ _ _ _
    c.done.invariant c.done-test.true _ c.section_row-r.ensures in record {
      entry_in = k.0;
      span_in = k.1;
      item_bound = omega (
        arith,
        size_row _ _ _ _ c.requires _ _ _ _ _ _
            c.done.invariant c.done-test.true _ c.section_row-r.ensures,
        item_in c.loop-item.invariant c.loop-item-test.true,
      );
    }

pub loop-at-init : goal.loop-at-init
loop-at-init c =
    fragment_in _ _ _ _ c.requires _
    (below c.done.invariant c.done-test.true) _ _ _ _
    c.loop-item.invariant c.loop-item-test.true

pub loop-item-smaller : goal.loop-item-smaller
loop-item-smaller c = omega (arith, c.loop-item-test.true)

pub loop-item-preserved : goal.loop-item-preserved
loop-item-preserved c =
    fragment_out _ _ _ _ c.requires _
    (below c.done.invariant c.done-test.true) _
    (item_in c.loop-item.invariant c.loop-item-test.true) _
    (shown_is _ _ _ _ c.requires _ _ _ _ _ _
    c.done.invariant c.done-test.true _
    c.section_row-r.ensures _ _ c.fragment_of-t.ensures) _ _ c.loop-at.invariant
    c.loop-at-test.false

pub overflow_sub-at : goal.overflow_sub-at
overflow_sub-at c = omega (arith, c.loop-at-test.true)

pub bounds-t-at : goal.bounds-t-at
bounds-t-at c = omega (arith, c.loop-at-test.true, c.loop-at.invariant.at_in)

pub overflow_sub-at-in-loop-at : goal.overflow_sub-at-in-loop-at
overflow_sub-at-in-loop-at c = omega (arith, c.loop-at-test.true)

pub overflow_add-n : goal.overflow_add-n
overflow_add-n c =
    omega (
      arith,
      byte_short _ _ _ _ c.requires _ (below c.done.invariant
          c.done-test.true) _
          (item_in c.loop-item.invariant c.loop-item-test.true) _
          (shown_is _ _ _ _ c.requires _ _ _ _ _ _ c.done.invariant
          c.done-test.true _
          c.section_row-r.ensures _ _ c.fragment_of-t.ensures) _ _
          c.loop-at.invariant,
    )

pub loop-at-smaller : goal.loop-at-smaller
loop-at-smaller c = omega (arith, c.loop-at-test.true)

pub loop-at-preserved : goal.loop-at-preserved
loop-at-preserved c =
    byte_more _ _ _ _ c.requires _ (below c.done.invariant
    c.done-test.true) _
    (item_in c.loop-item.invariant c.loop-item-test.true) _
    (shown_is _ _ _ _ c.requires _ _ _ _ _ _ c.done.invariant
    c.done-test.true _
    c.section_row-r.ensures _ _ c.fragment_of-t.ensures) _ _
    c.loop-at.invariant c.loop-at-test.true c.if-t-at-eq10.false

pub done-smaller : goal.done-smaller
done-smaller c = omega (arith, c.done-test.true)

pub done-preserved : goal.done-preserved
done-preserved c =
    section_out _ _ _ _ c.requires _ _ _ _ _ _
    c.done.invariant c.done-test.true _ c.section_row-r.ensures _ _ _
    c.loop-item.invariant c.loop-item-test.false

pub returns-after-done : goal.returns-after-done
returns-after-done c = at_end _ _ _ _ c.requires _ _ _ _ _ _ c.done.invariant c.done-test.false

pub returns-then-t-at-eq10 : goal.returns-then-t-at-eq10
returns-then-t-at-eq10 c =
    at_feed _ _ _ _ c.requires _ (below c.done.invariant
    c.done-test.true) _
    (item_in c.loop-item.invariant c.loop-item-test.true) _
    (shown_is _ _ _ _ c.requires _ _ _ _ _ _ c.done.invariant
    c.done-test.true _
    c.section_row-r.ensures _ _ c.fragment_of-t.ensures) _ _
    c.loop-at.invariant c.loop-at-test.true _
    (before_row _ _ _ _ c.requires _ _ _ _ _ _ c.done.invariant
    c.done-test.true) c.if-t-at-eq10.true
