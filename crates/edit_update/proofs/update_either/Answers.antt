use mathlib.Core.Path.{refl, ap}
use Prim.Native.Nat.{◌+◌}
use native.Mathlib.Omega.{arith}
use Rattle.memory_table.specs.declared.Row.{Row}
use Rattle.edit_in_place.proofs.InPlace.{lent_roomy}
use Rattle.edit_room_above.proofs.Bounds.{above_small}
use Rattle.edit_update.proofs.InPlace.{update_top_ran, update_top_above}
use Rattle.edit_update.proofs.update_either.Goals as goal

pub overflow_add-z : goal.overflow_add-z
overflow_add-z c = omega (arith, ap (λ (r : Row). r.start) c.get_row-z.ensures, c.requires.desk.well_formed.readable.linked.room, c.requires.desk.well_formed.sized.chunks)

pub has_room-requires : goal.has_room-requires
has_room-requires c = record { small = above_small c.requires.desk.above; le_ct = c.requires.desk.well_formed.sized.some }

pub update_steps-steps-requires : goal.update_steps-steps-requires
update_steps-steps-requires c = let w = c.requires.desk.well_formed in let rm = c.has_room.ensures.0 c.if-has_room.true in record { roomy = lent_roomy 2 w (omega (arith, rm.chunks, ap (λ (r : Row). r.start) c.get_row-z.ensures, c.requires.desk.well_formed.sized.some)); byte_bound = omega (arith, c.requires.desk.above.byte, c.requires.desk.well_formed.sized.store); text_in_bounds = λ _. rm.places }

pub overflow_add-used : goal.overflow_add-used
overflow_add-used c =
    let rm = c.has_room.ensures.0 c.if-has_room.true in
    omega (arith, rm.places, c.requires.desk.well_formed.sized.store)

pub returns-then-has_room : goal.returns-then-has_room
returns-then-has_room c =
    let rm = c.has_room.ensures.0 c.if-has_room.true in
    let x = c.update_steps-steps.ensures in
    let e = ap (λ (r : Row). r.start + 2) c.get_row-z.ensures in
    let lt = c.update_steps-steps.auto.t in
    let ls = c.update_steps-steps.auto.s in
    record {
      ran = rw (c.settled.ensures.number_is, c.settled.ensures.cuts_are) (update_top_ran c.requires.desk.well_formed c.requires.desk.above rm x refl c.requires.start_lt_end e c.requires.overwrite_value lt ls);
      above = update_top_above c.requires.desk.well_formed c.requires.desk.above rm x refl ls (omega arith) c.settled.ensures;
    }

pub update_scratch-requires : goal.update_scratch-requires
update_scratch-requires c = record { well_formed = c.requires.desk.well_formed; start_lt_end = c.requires.start_lt_end; overwrite_value = c.requires.overwrite_value }
