use native.Mathlib.Omega.{arith}
use Rattle.edit_in_place.proofs.InPlace.{lent_roomy}
use Rattle.edit_change_range_steps.proofs.Range.{range_in_place, range_above}
use Rattle.edit_remove.proofs.change_range_either.Goals as goal

pub has_rows-requires : goal.has_rows-requires
has_rows-requires c = (c.requires.desk.well_formed.sized.some, omega arith)

pub change_range_steps-steps-requires : goal.change_range_steps-steps-requires
change_range_steps-steps-requires c = record { roomy = lent_roomy 2 c.requires.desk.well_formed (c.has_rows.ensures c.if-has_rows.true); a_lt_b = c.requires.a_lt_b; empty_at = c.requires.empty_at }

pub returns-then-has_rows : goal.returns-then-has_rows
returns-then-has_rows c = (range_in_place c.requires.desk.well_formed c.change_range_steps-steps.ensures c.change_range_steps-steps.auto.t, range_above c.change_range_steps-steps.ensures c.requires.desk.above)
