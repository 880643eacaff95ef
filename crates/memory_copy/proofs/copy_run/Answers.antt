use mathlib.Core.Path.{◌≡◌}
use native.Mathlib.Omega.{arith}
use Rattle.memory.specs.Layout.{tabulate}
use Rattle.memory_texts.specs.Carry.{RoomOf}
use Rattle.memory_texts.proofs.Texts.{run_piece, run_tabulate}
use Rattle.memory_texts.proofs.Loops.{texts, carrying_none, carrying_room, carrying_more}
use Rattle.memory_copy.proofs.copy_run.Goals as goal
use Rattle.memory_copy.proofs.copy_run.Goals.{After-text_of-t}

room_of : (c : After-text_of-t) → RoomOf (tabulate (texts c.args.pieces.now c.args.store.now c.args.at) c.args.n) c.args.new_pieces.now c.args.new_store.now c.args.to.byte c.args.to.row
room_of c = rw run_tabulate at c.requires.room_of

pub loop-i-init : goal.loop-i-init
loop-i-init c = carrying_none _ _ _ _ _

pub text_of-t-requires : goal.text_of-t-requires
text_of-t-requires c = run_piece _ _ _ _ _ c.requires.run_in c.loop-i-test.true

pub push_piece-byte-requires : goal.push_piece-byte-requires
push_piece-byte-requires c = carrying_room _ c.loop-i.invariant (room_of (goal.at.push_piece-byte-requires c).After-text_of-t) c.loop-i-test.true _ c.text_of-t.ensures

pub loop-i-preserved : goal.loop-i-preserved
loop-i-preserved c =
    carrying_more _ c.loop-i.invariant (room_of (goal.at.loop-i-preserved c).After-text_of-t)
    c.loop-i-test.true c.text_of-t.ensures c.push_piece-byte.ensures c.push_piece-byte.auto.pieces c.push_piece-byte.auto.store

pub returns : goal.returns
returns c =
    let e : c.loop-i.i ≡ c.args.n = omega arith in
    rw run_tabulate (rw e at c.loop-i.invariant.carried)
