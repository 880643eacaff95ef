-- `fragments::next` meets its contract.
use native.Mathlib.Omega.{arith}
use Rattle.memory_fragments.proofs.Sections.{row_in}
use Rattle.memory_fragments.proofs.Places.{size_row, went_in, went_on}
use Rattle.memory_fragments.proofs.next.Goals as goal

pub section_row-r-requires : goal.section_row-r-requires
section_row-r-requires c = rw (c.requires.on.row_is c.requires.section_bound) (row_in _ _ c.requires.linked)

pub overflow_add-item : goal.overflow_add-item
overflow_add-item c = omega (arith, c.requires.narrow.1 c.args.c.section, c.requires.on.item_in)

pub overflow_add-r : goal.overflow_add-r
overflow_add-r c =
    omega (
      arith,
      size_row _ _ _ _ c.requires.on c.requires.section_bound _ c.section_row-r.ensures,
      c.requires.narrow.1 c.args.c.section,
    )

pub returns-then-item-r : goal.returns-then-item-r
returns-then-item-r c = went_in _ _ _ _ c.requires.on c.requires.section_bound _ c.section_row-r.ensures c.if-item-r.true

pub overflow_add-result : goal.overflow_add-result
overflow_add-result c = omega (arith, c.requires.narrow.0, c.requires.section_bound)

pub returns : goal.returns
returns c =
    went_on _ _ _ _ c.requires.on c.requires.section_bound _
    c.section_row-r.ensures c.requires.linked c.if-item-r.false
