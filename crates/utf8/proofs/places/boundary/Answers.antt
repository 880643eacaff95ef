-- No following byte stands there, or the end.
use mathlib.Core.Bool.{not}
use mathlib.Core.Path.{sym, ap, ◌∙◌}
use native.Mathlib.Omega.{arith}
use borrow.Author.Tests.{le-leb}
use Rattle.utf8.proofs.Boundaries.{between_at, between_past}
use Rattle.utf8.proofs.places.boundary.Goals as goal

pub returns-then-s-p : goal.returns-then-s-p
returns-then-s-p c = le-leb _ _ c.if-s-p.true ∙ sym (between_past c.args.s.now c.args.p c.requires c.if-s-p.true)

pub returns-else-s-p : goal.returns-else-s-p
returns-else-s-p c = ap not c.following.ensures ∙ sym (between_at c.args.s.now c.args.p c.requires (omega arith))
