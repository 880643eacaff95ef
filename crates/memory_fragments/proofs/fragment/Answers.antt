-- `fragments::fragment` meets its contract.
use Rattle.memory_fragments.proofs.Sections.{row_in}
use Rattle.memory_fragments.proofs.fragment.Goals as goal

pub section_row-r-requires : goal.section_row-r-requires
section_row-r-requires c = rw (c.requires.on.row_is c.requires.section_bound) (row_in _ _ c.requires.ready.linked)
