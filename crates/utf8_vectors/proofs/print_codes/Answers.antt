-- Each character lies within the text, so the loop ends.
use Rattle.std.proofs.Common.{arith, sym}
use Rattle.utf8.proofs.Texts.{turn}
use Rattle.utf8_vectors.proofs.print_codes.Goals as goal

pub overflow_add-i : goal.overflow_add-i
overflow_add-i g c =
    let t = turn c.args.s.now c.loop-code.i _ _ (sym c.in-Char.ensures) in omega (arith, t.1)

pub loop-code-smaller : goal.loop-code-smaller
loop-code-smaller g c =
    let t = turn c.args.s.now c.loop-code.i _ _ (sym c.in-Char.ensures) in omega (arith, t.0, t.1)

pub loop-code-preserved : goal.loop-code-preserved
loop-code-preserved g c =
    let t = turn c.args.s.now c.loop-code.i _ _ (sym c.in-Char.ensures) in omega (arith, t.1)
