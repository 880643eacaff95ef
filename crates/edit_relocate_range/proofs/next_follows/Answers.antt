use mathlib.Core.Path.{ap}
use borrow.Author.Tests.{eq-eqb, ne_eqb}
use Rattle.memory_table.specs.declared.Row.{Row}
use Rattle.edit_relocate_range.specs.Range.{goes_on}
use Rattle.edit_relocate_range.proofs.next_follows.Goals as goal

pub returns-then-c-ne-LIST_END : goal.returns-then-c-ne-LIST_END
unfolding goes_on
returns-then-c-ne-LIST_END c = rw (ne_eqb _ _ c.if-c-ne-LIST_END.true, ap (λ (r : Row). r.start) c.get_row.ensures)

pub returns-else-c-ne-LIST_END : goal.returns-else-c-ne-LIST_END
unfolding goes_on
returns-else-c-ne-LIST_END c = rw (eq-eqb _ _ c.if-c-ne-LIST_END.false)
