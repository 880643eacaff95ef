use native.Mathlib.Omega.{arith}
use Rattle.memory.specs.WellFormed.{Lengths}
use Rattle.edit_room_above.proofs.Finishing.{formed_usable}
use Rattle.join.proofs.Making.{grows, ran_both}
use Rattle.join.proofs.run.run_both.Goals as goal

pub live-between-requires : goal.live-between-requires
live-between-requires c = let a = c.run_list.ensures c.requires.counted.list c.requires.counted.are in let u = formed_usable a.well_formed in record { readable = u.readable; s_value = u.within_is; sized = u.sized }

pub run_list-requires-2 : goal.run_list-requires-2
run_list-requires-2 c = let a = c.run_list.ensures c.requires.counted.list c.requires.counted.are in record { desk = record { well_formed = a.well_formed; above = c.live-between.ensures }; counted = c.requires.counted_2 }

pub overflow_sub-result : goal.overflow_sub-result
overflow_sub-result c =
    let same : Lengths _ _ _ _ _ _ = record { chunks = c.run_list.auto.chunks; pieces = c.run_list.auto.pieces; store = c.run_list.auto.store } in
    let more = grows c.requires.counted c.requires.counted_2 c.requires.desk.well_formed same c.run_list.ensures c.run_list-2.ensures in
    omega (arith, more)

pub returns : goal.returns
returns c =
    let same : Lengths _ _ _ _ _ _ = record { chunks = c.run_list.auto.chunks; pieces = c.run_list.auto.pieces; store = c.run_list.auto.store } in
    ran_both c.requires.counted c.requires.counted_2 c.requires.desk.well_formed same c.run_list.ensures c.run_list-2.ensures (omega arith)
