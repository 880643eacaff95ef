use native.Mathlib.Omega.{arith}
use Rattle.check_runs_apart.proofs.Runs.{run_at, steps_none, steps_markable, steps_more, steps_no, steps_done, run_few, lists_passed}
use Rattle.check_runs_apart.proofs.mark_lists.Goals as goal

pub loop-k-init : goal.loop-k-init
loop-k-init c = steps_none c.requires.markable _ _ _

pub mark_run-requires-clause-markable : goal.mark_run-requires-clause-markable
mark_run-requires-clause-markable c = steps_markable c.requires.markable c.loop-k.invariant

pub loop-k-preserved : goal.loop-k-preserved
loop-k-preserved c =
    let few = run_few (run_at c.args.t.now c.args.i c.loop-k.k) (steps_markable c.requires.markable c.loop-k.invariant) c.in_ok-all.ensures in
    steps_more c.requires.markable c.loop-k.invariant c.in_ok-all.ensures (omega arith) c.mark_run.auto.rows c.mark_run.auto.marks

pub returns-in_err-all : goal.returns-in_err-all
returns-in_err-all c =
    rw c.from_residual.ensures
    (lists_passed c.args.t.now c.args.i (steps_no c.requires.markable c.loop-k.invariant c.in_err-all.ensures 2 c.loop-k-test.true _ _))

pub returns : goal.returns
returns c = lists_passed c.args.t.now c.args.i (steps_done c.requires.markable c.loop-k.invariant 2 (omega arith))
