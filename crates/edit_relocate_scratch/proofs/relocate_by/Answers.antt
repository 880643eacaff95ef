use native.Mathlib.Omega.{arith}
use Rattle.edit_scratch.proofs.Tables.{loaded_roomy}
use Rattle.edit_room_above.proofs.Finishing.{formed_usable}
use Rattle.edit_relocate_scratch.proofs.Call.{loaded_spanned, relocated_readable, relocated}
use Rattle.edit_relocate_scratch.proofs.relocate_by.Goals as goal

pub load-requires : goal.load-requires
load-requires c = (
  omega (arith, c.requires.well_formed.sized.chunks, c.requires.scratch.chunks),
  omega (arith, c.requires.well_formed.sized.pieces, c.requires.scratch.pieces),
  omega (arith, c.requires.well_formed.sized.store, c.requires.scratch.store),
)

pub relocate_steps-steps-requires : goal.relocate_steps-steps-requires
relocate_steps-steps-requires c = record { roomy = loaded_roomy c.requires.well_formed c.requires.scratch c.load.ensures; spanned = loaded_spanned c.requires.well_formed c.requires.scratch c.load.ensures c.requires.tested; movable = c.requires.tested.movable }

pub finish-requires : goal.finish-requires
finish-requires c = record { readable = relocated_readable c.requires.well_formed c.requires.scratch c.load.ensures c.requires.tested c.relocate_steps-steps.ensures; usable = formed_usable c.requires.well_formed }

pub returns : goal.returns
returns c =
    record {
      ran = relocated c.requires.well_formed c.requires.scratch c.load.ensures c.requires.tested c.relocate_steps-steps.ensures c.finish.ensures.0;
      above = c.finish.ensures.1;
    }
