use Rattle.std.proofs.lemmas.Result.{err_from_is_err_and}
use Rattle.indent_steps.proofs.walk_texts.Goals as goal

pub returns-in_err-next : goal.returns-in_err-next
returns-in_err-next c =
    let p = err_from_is_err_and c.from_residual.result c.from_residual.ensures.1 in
    rw (p.1, p.2) (c.in_err-next.ensures.next c.args.t.now c.loop-next.invariant)

pub loop-next-preserved : goal.loop-next-preserved
loop-next-preserved c = let turned = rw c.in-Some.is at c.in_ok-next.ensures in turned.next c.args.t.now c.loop-next.invariant

pub returns : goal.returns
returns c = let turned = rw c.in_default.is at c.in_ok-next.ensures in turned.next c.args.t.now c.loop-next.invariant
