use Rattle.trim_text.specs.Patterns.{pattern_number}
use Rattle.trim_text.specs.Sides.{blank}
use Rattle.memory.specs.Layout.{run_of}
use Rattle.model.specs.Text.{all}
use mathlib.Core.Bool.{true}
use mathlib.Core.Path.{◌≡◌}
use Rattle.trim_run.proofs.blank_front.Given as goal

abbrev pub invariant-loop-k : goal.invariant-loop-k
invariant-loop-k l = all (blank (pattern_number l.pattern)) (run_of l.p l.s (l.at, l.k)) ≡ true
