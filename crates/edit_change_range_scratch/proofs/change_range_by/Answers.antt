use native.Mathlib.Omega.{arith}
use Rattle.edit_scratch.proofs.Tables.{loaded_roomy}
use Rattle.edit_room_above.proofs.Finishing.{formed_usable}
use Rattle.edit_change_range_steps.proofs.Range.{range_readable, range_ran}
use Rattle.edit_change_range_scratch.proofs.change_range_by.Goals as goal

pub load-requires : goal.load-requires
load-requires c = (
  omega (arith, c.requires.well_formed.sized.chunks, c.requires.scratch.chunks),
  omega (arith, c.requires.well_formed.sized.pieces, c.requires.scratch.pieces),
  omega (arith, c.requires.well_formed.sized.store, c.requires.scratch.store),
)

pub change_range_steps-steps-requires : goal.change_range_steps-steps-requires
change_range_steps-steps-requires c = let y = loaded_roomy c.requires.well_formed c.requires.scratch c.load.ensures in record { roomy = record { linked = y.linked; room = omega (arith, y.room); narrow = y.narrow }; a_lt_b = c.requires.a_lt_b; empty_at = c.requires.empty_at }

pub finish-requires : goal.finish-requires
finish-requires c = record { readable = range_readable c.requires.well_formed c.requires.scratch c.load.ensures c.change_range_steps-steps.ensures; usable = formed_usable c.requires.well_formed }

pub returns : goal.returns
returns c = (range_ran c.requires.well_formed c.requires.scratch c.load.ensures c.change_range_steps-steps.ensures c.finish.ensures.0, c.finish.ensures.1)
