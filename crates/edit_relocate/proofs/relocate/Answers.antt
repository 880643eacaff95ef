use Rattle.memory.proofs.Desks.{valid_source}
use Rattle.edit_relocate.proofs.relocate.Goals as goal

pub tested-status-requires : goal.tested-status-requires
tested-status-requires c = valid_source c.requires.well_formed
