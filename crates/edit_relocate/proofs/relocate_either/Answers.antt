use native.Mathlib.Omega.{arith}
use Rattle.edit_in_place.proofs.InPlace.{lent_roomy}
use Rattle.edit_relocate_scratch.proofs.Call.{lent_spanned, relocated_in_place, relocated_above}
use Rattle.edit_relocate.proofs.relocate_either.Goals as goal

pub has_rows-requires : goal.has_rows-requires
has_rows-requires c = (c.requires.desk.well_formed.sized.some, omega arith)

pub relocate_steps-steps-requires : goal.relocate_steps-steps-requires
relocate_steps-steps-requires c = record { roomy = lent_roomy 3 c.requires.desk.well_formed (c.has_rows.ensures c.if-has_rows.true); spanned = lent_spanned c.requires.desk.well_formed c.requires.tested; movable = c.requires.tested.movable }

pub returns-then-has_rows : goal.returns-then-has_rows
returns-then-has_rows c =
    record {
      ran = relocated_in_place c.requires.desk.well_formed c.requires.tested c.relocate_steps-steps.ensures c.relocate_steps-steps.auto.t;
      above = relocated_above c.relocate_steps-steps.ensures c.requires.desk.above;
    }
