use native.Mathlib.Omega.{arith}
use Rattle.memory_texts.proofs.Texts.{run_piece}
use Rattle.report_slice_chunk.proofs.Loops.{turn_none, turn_room, turn_more, turn_done}
use Rattle.report_slice_chunk.proofs.emit_run.Goals as goal

pub loop-i-init : goal.loop-i-init
loop-i-init c = turn_none _ _ _ _

pub overflow_add-first : goal.overflow_add-first
overflow_add-first c = omega (arith, (run_piece _ _ _ _ c.loop-i.i c.requires.run_in c.loop-i-test.true).row)

pub text_of-t-requires : goal.text_of-t-requires
text_of-t-requires c = run_piece _ _ _ _ _ c.requires.run_in c.loop-i-test.true

pub emit-o-requires : goal.emit-o-requires
emit-o-requires c =
    turn_room _ _ _ _ _ _ _ c.requires.room _ _ _ c.loop-i.invariant
    c.loop-i-test.true _ c.text_of-t.ensures

pub loop-i-preserved : goal.loop-i-preserved
loop-i-preserved c =
    turn_more _ _ _ _ _ _ _
    c.requires.room _ _ _ c.loop-i.invariant
    c.loop-i-test.true c.text_of-t.ensures c.emit-o.ensures
    c.emit-o.auto.out

pub shape_of-out : goal.shape_of-out
shape_of-out c = c.loop-i.invariant.same

pub returns : goal.returns
returns c = turn_done _ _ _ _ _ _ _ _ _ _ c.loop-i.invariant (omega (arith, c.loop-i.auto.i-end)) c.loop-i-test.false
