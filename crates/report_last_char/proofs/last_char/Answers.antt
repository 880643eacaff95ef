use mathlib.Core.Path.{ap}
use Prim.Native.Nat.{◌+◌}
use Rattle.memory_table.specs.declared.Row.{Row}
use Rattle.report_last_char.proofs.Backwards.{seeking_all, seeking_none, seeking_row, seeking_requires, seeking_found, seeking_more}
use Rattle.report_last_char.proofs.last_char.Goals as goal

pub loop-section-init : goal.loop-section-init
loop-section-init c = seeking_all _ _ _ _ c.requires _ (ap (λ (r : Row). r.start + 2) c.get_row-z.ensures)

pub section_row-r-requires : goal.section_row-r-requires
section_row-r-requires c = seeking_row _ _ _ _ c.requires _ _ c.loop-section.invariant c.loop-section-test.true

pub last_of_row-requires-clause-entry_in : goal.last_of_row-requires-clause-entry_in
last_of_row-requires-clause-entry_in c = (seeking_requires _ _ _ _ c.requires _ _ c.loop-section.invariant c.loop-section-test.true _ c.section_row-r.ensures).0

pub last_of_row-requires-clause-span_in : goal.last_of_row-requires-clause-span_in
last_of_row-requires-clause-span_in c = (seeking_requires _ _ _ _ c.requires _ _ c.loop-section.invariant c.loop-section-test.true _ c.section_row-r.ensures).1

pub last_of_row-requires-clause-all : goal.last_of_row-requires-clause-all
last_of_row-requires-clause-all c = (seeking_requires _ _ _ _ c.requires _ _ c.loop-section.invariant c.loop-section-test.true _ c.section_row-r.ensures).2

pub returns-in-Some : goal.returns-in-Some
returns-in-Some c = seeking_found _ _ _ _ c.requires _ _ c.loop-section.invariant c.loop-section-test.true _ c.section_row-r.ensures _ c.in-Some.ensures

pub loop-section-preserved : goal.loop-section-preserved
loop-section-preserved c = seeking_more _ _ _ _ c.requires _ _ c.loop-section.invariant c.loop-section-test.true _ c.section_row-r.ensures c.in_default.ensures

pub returns : goal.returns
returns c = seeking_none _ _ _ _ c.requires _ _ c.loop-section.invariant c.loop-section-test.false
