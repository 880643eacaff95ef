-- `attempt` meets its contract: where `has_room` says so, there is room for what `insert_in_place` puts there.
use mathlib.Core.Path.{refl, ap, subst}
use Prim.Native.Nat.{ℕ}
use native.Mathlib.Omega.{arith}
use lib.ListN.{length}
use Rattle.memory_table.specs.declared.Row.{Row}
use Rattle.edit_room_above.specs.Live.{Room}
use Rattle.edit_room_above.proofs.Bounds.{above_small}
use Rattle.edit_insert_side.proofs.CutsFirst.{few_cuts}
use Rattle.edit_small_tables.proofs.Trying.{above_readable}
use Rattle.edit_insert_small.proofs.attempt.Goals as goal

pub overflow_add-most : goal.overflow_add-most
overflow_add-most c =
    omega (arith, ap (λ (r : Row). r.start) c.get_row-z.ensures, c.cut_count.ensures, few_cuts c.args.spot, c.requires.well_formed.readable.linked.room, c.requires.well_formed.sized.chunks)

pub has_room-requires : goal.has_room-requires
has_room-requires c = record { small = above_small c.requires.above; le_ct = c.requires.well_formed.sized.some }

pub returns-then-not-has_room : goal.returns-then-not-has_room
returns-then-not-has_room c = record { ran = λ n. absurd (n refl); readable = λ z. absurd (omega arith) }

pub insert_in_place-o-requires : goal.insert_in_place-o-requires
insert_in_place-o-requires c =
    let room = c.has_room.ensures.0 c.if-not-has_room.false in
    let room_for : ℕ → Type 0 = λ n. Room (length c.args.t.now) (length c.args.p.now) (length c.args.s.now) c.args.l n (length c.args.text.now) in
    record { desk = c.requires; room = subst room_for (omega (arith, ap (λ (r : Row). r.start) c.get_row-z.ensures, c.cut_count.ensures)) room }

pub returns : goal.returns
returns c = record { ran = λ _. c.insert_in_place-o.ensures.0; readable = λ _. above_readable c.insert_in_place-o.ensures.1 }
