use native.Mathlib.Omega.{arith}
use Rattle.memory_texts.proofs.Texts.{run_piece}
use Rattle.edit_room_above.proofs.Passing.{run_start, run_more, run_end}
use Rattle.edit_room_above.proofs.live_run.Goals as goal

pub loop-i-init : goal.loop-i-init
loop-i-init c = run_start c.args.p.now c.args.s.now c.args.at c.args.n c.args.c c.requires.live_in

pub piece_end-requires : goal.piece_end-requires
piece_end-requires c = (run_piece c.args.p.now c.args.s.now c.args.at c.args.n c.loop-i.i c.requires.run_in (omega (arith, c.loop-i-test.true))).row

pub loop-i-preserved : goal.loop-i-preserved
loop-i-preserved c = run_more c.piece_end.result c.max-byte.result c.requires.run_in c.loop-i.invariant (omega (arith, c.loop-i-test.true)) c.piece_end.ensures c.max-byte.ensures

pub returns : goal.returns
returns c = run_end c.requires.run_in c.requires.live_in c.loop-i.invariant (omega (arith, c.loop-i-test.false)) c.add_capped-pieces.ensures c.top_row-row.ensures
