use Rattle.replay_digest.proofs.Walks.{rows_none, rows_done, rows_row, rows_more}
use Rattle.memory_fragments.proofs.Output.{ready}
use Rattle.memory_table.specs.declared.Row.{Row}
use native.Mathlib.Omega.{arith}
use Prim.Native.Nat.{◌+◌}
use mathlib.Core.Path.{ap}
use Rattle.replay_digest.proofs.mix_rows.Goals as goal

pub get_row-z-requires : goal.get_row-z-requires
get_row-z-requires c = omega (arith, c.requires.readable.linked.room)

pub overflow_add-stop : goal.overflow_add-stop
overflow_add-stop c = omega (arith, (ready _ _ _ _ c.requires).narrow.0, ap (λ (r : Row). r.start) c.get_row-z.ensures)

pub loop-section-init : goal.loop-section-init
loop-section-init c = rows_none _ _ _ (ap (λ (r : Row). r.start + 2) c.get_row-z.ensures)

pub section_row-r-requires : goal.section_row-r-requires
section_row-r-requires c = rows_row c.loop-section.invariant c.requires.readable.linked c.loop-section-test.true

pub loop-section-preserved : goal.loop-section-preserved
loop-section-preserved c =
    rows_more c.loop-section.invariant c.requires.readable.linked
    c.loop-section-test.true _ c.section_row-r.ensures c.mix_row-d.ensures

pub returns : goal.returns
returns c = rows_done c.loop-section.invariant c.loop-section-test.false
