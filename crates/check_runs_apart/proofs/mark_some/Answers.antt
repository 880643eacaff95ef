use Rattle.check_runs_apart.proofs.Runs.{some_yes, some_no, some_stop}
use Rattle.check_runs_apart.proofs.mark_some.Goals as goal

pub returns-then-not-mark : goal.returns-then-not-mark
returns-then-not-mark c =
    some_no c.args.size _ _ _ c.args.used c.args.at c.args.n c.requires.markable c.requires.n_nonzero.0 _
    c.mark.ensures c.if-not-mark.true _

pub returns-in_err-byte : goal.returns-in_err-byte
returns-in_err-byte c =
    rw c.from_residual.ensures
    (some_stop c.args.size _ _ _ c.args.used c.args.at c.args.n c.requires.markable c.requires.n_nonzero.0 _
    c.mark.ensures c.if-not-mark.false _ _ c.in_err-byte.ensures)

pub returns : goal.returns
returns c =
    some_yes c.args.size _ _ _ c.args.used c.args.at c.args.n c.requires.markable c.requires.n_nonzero.0 _
    c.mark.ensures c.if-not-mark.false _ _ _ c.max.ensures c.in_ok-byte.ensures
