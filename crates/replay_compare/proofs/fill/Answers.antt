use mathlib.Core.Path.{◌∙◌}
use borrow.Author.Rules.{rules}
use lib.ListN.{length}
use Rattle.replay_compare.proofs.Tests.{filled_is}
use Rattle.replay_compare.proofs.fill.Goals as goal

pub returns : goal.returns
returns c = c.fill.ensures.after (λ y e. search rules) ∙ filled_is (length c.args.s.now)
