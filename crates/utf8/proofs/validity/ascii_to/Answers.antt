use native.Mathlib.Omega.{arith}
use Rattle.utf8.proofs.Blocks.{block}
use Rattle.utf8.proofs.validity.ascii_to.Goals as goal

pub loop-i-preserved : goal.loop-i-preserved
loop-i-preserved c =
    let l = c.loop-i in
    block c.args.s.now c.args.from l.i c.joined_bits.result l.invariant (omega arith) c.joined_bits.ensures (omega arith)
