use native.Mathlib.Omega.{arith}
use Rattle.check_runs_apart.proofs.Runs.{run_none}
use Rattle.check_runs_apart.proofs.mark_run.Goals as goal

pub returns-then-n-eq0 : goal.returns-then-n-eq0
returns-then-n-eq0 c = run_none _ _ _ _ _ _ _ c.requires.markable (omega arith)
