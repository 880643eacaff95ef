-- `fragments::section_row` meets its contract.
use Rattle.memory_fragments.proofs.Places.{row_other, row_head, row_tail}
use Rattle.memory_fragments.proofs.section_row.Goals as goal

pub returns-then-row-ne0 : goal.returns-then-row-ne0
returns-then-row-ne0 c = row_other _ _ _ _ c.get_row-r.ensures c.if-row-ne0.true

pub returns-then-section-eq0 : goal.returns-then-section-eq0
returns-then-section-eq0 c = row_head _ _ _ _ c.get_row-r.ensures c.if-row-ne0.false c.if-section-eq0.true

pub returns : goal.returns
returns c = row_tail _ _ _ _ c.get_row-r.ensures c.if-row-ne0.false c.if-section-eq0.false
