use mathlib.Core.Path.{ap}
use Prim.Native.Nat.{◌+◌, ◌≤◌}
use native.Mathlib.Omega.{arith}
use lib.ListN.{length-take, length-drop, length}
use Rattle.memory_texts.proofs.Over.{put_back}
use Rattle.memory_texts.proofs.Texts.{run_piece}
use Rattle.memory_texts.proofs.Loops.{turn_none, turn_more, fits, turn_room, turn_done}
use Rattle.memory_write_chunk.proofs.write_run.Goals as goal
use Rattle.memory_write_chunk.proofs.write_run.Goals.{After-text_of-t}

-- what is left of `out` has room for the text
room : (c : After-text_of-t) → c.loop-i.o + length c.text_of-t.result.now ≤ length c.loop-i.out
room c = turn_room _ _ _ _ _ _ c.requires.n_in_bounds _ _ _ _ c.loop-i.invariant c.loop-i-test.true c.text_of-t.ensures

pub loop-i-init : goal.loop-i-init
loop-i-init c = turn_none _ _ _

pub text_of-t-requires : goal.text_of-t-requires
text_of-t-requires c = run_piece _ _ _ _ _ c.requires.run_in c.loop-i-test.true

pub slice_bounds-put-count : goal.slice_bounds-put-count
slice_bounds-put-count c = omega (arith, room (goal.at.slice_bounds-put-count c).After-text_of-t)

pub slice_bounds-put-start : goal.slice_bounds-put-start
slice_bounds-put-start c = omega (arith, room (goal.at.slice_bounds-put-start c).After-text_of-t)

pub put-requires : goal.put-requires
put-requires c = let r = room (goal.at.put-requires c).After-text_of-t in simp (length-take, length-drop) (omega (arith, r))

pub loop-i-preserved : goal.loop-i-preserved
loop-i-preserved c =
    turn_more c.args.n c.loop-i.invariant c.loop-i-test.true
    (fits c.args.pieces.now c.args.store.now c.args.at c.args.n c.args.place c.args.out.now c.requires.n_in_bounds) (record {
      out_is = put_back _ _ _ _ _ (room (goal.at.loop-i-preserved c).After-text_of-t) c.put.ensures c.text_of-t.ensures;
      next_is = ap (λ t. c.loop-i.o + length t) c.text_of-t.ensures;
    })

pub returns : goal.returns
returns c = turn_done _ _ _ _ _ _ c.requires.n_in_bounds _ _ _ c.loop-i.invariant (omega arith) c.loop-i-test.false
