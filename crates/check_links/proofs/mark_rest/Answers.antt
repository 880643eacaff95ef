use mathlib.Core.Path.{sym, ◌∙◌}
use Rattle.check_links.proofs.Stretches.{pending_marked}
use Rattle.check_links.proofs.mark_rest.Goals as goal

pub returns-then-size-left : goal.returns-then-size-left
returns-then-size-left c = pending_marked _ _ (sym c.pending-size.ensures ∙ c.if-size-left.true) c.pending-size.ensures c.requires.0 c.requires.1 c.mark_range.ensures
