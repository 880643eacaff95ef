-- `insert_either` meets its contract, by either way. Where `has_room` says so, there is room for what `insert_in_place` puts there.
use mathlib.Core.Path.{ap, subst}
use Prim.Native.Nat.{ℕ}
use native.Mathlib.Omega.{arith}
use lib.ListN.{length}
use Rattle.memory_table.specs.declared.Row.{Row}
use Rattle.edit_room_above.specs.Live.{Room}
use Rattle.edit_room_above.proofs.Bounds.{above_small}
use Rattle.edit_insert_side.proofs.CutsFirst.{few_cuts}
use Rattle.edit_insert_either.proofs.insert_either.Goals as goal

pub overflow_add-most : goal.overflow_add-most
overflow_add-most c =
    omega (arith, ap (λ (r : Row). r.start) c.get_row-z.ensures, c.cut_count.ensures, few_cuts c.args.spot, c.requires.well_formed.readable.linked.room, c.requires.well_formed.sized.chunks)

pub has_room-requires : goal.has_room-requires
has_room-requires c = record { small = above_small c.requires.above; le_ct = c.requires.well_formed.sized.some }

pub insert_in_place-requires : goal.insert_in_place-requires
insert_in_place-requires c =
    let room = c.has_room.ensures.0 c.if-has_room.true in
    let room_for : ℕ → Type 0 = λ n. Room (length c.args.chunks.now) (length c.args.pieces.now) (length c.args.store.now) c.args.used n (length c.args.text.now) in
    record { desk = c.requires; room = subst room_for (omega (arith, ap (λ (r : Row). r.start) c.get_row-z.ensures, c.cut_count.ensures)) room }

pub returns-then-has_room : goal.returns-then-has_room
returns-then-has_room c = c.insert_in_place.ensures

pub insert_anew-requires : goal.insert_anew-requires
insert_anew-requires c = c.requires

pub returns : goal.returns
returns c = c.insert_anew.ensures
