use mathlib.Core.Path.{◌≡◌}
use lib.ListN.{drop}
use Rattle.utf8.specs.Rfc3629.{between}
use Rattle.model.specs.Text.{all}
use Rattle.indent.proofs.positions_between.Given as goal

abbrev pub invariant-loop-position : goal.invariant-loop-position
invariant-loop-position l = all (between l.source) l.exclude ≡ all (between l.source) (drop l.position-index l.exclude)
