use Rattle.trim_text.specs.Patterns.{pattern_number}
use Rattle.trim_run.proofs.Run.{run_test}
use Rattle.trim_run.proofs.is_blank.Goals as goal

pub returns : goal.returns
returns c = run_test (pattern_number c.args.pattern) c.args.p.now c.args.s.now c.args.at c.args.n _ c.blank_front.ensures
