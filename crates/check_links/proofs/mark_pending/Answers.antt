use native.Mathlib.Omega.{arith}
use Rattle.check_links.proofs.Stretches.{pending_marked}
use Rattle.check_links.proofs.mark_pending.Goals as goal

pub returns-then-size-side : goal.returns-then-size-side
returns-then-size-side c = pending_marked _ _ (omega arith) c.pending-size.ensures c.requires.0 c.requires.1 c.mark_range.ensures
