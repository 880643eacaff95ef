use Rattle.replay_digest.specs.Digest.{mixed}
use borrow.Author.Rules.{rules}
use Rattle.replay_digest.proofs.mix.Goals as goal

pub returns : goal.returns
unfolding mixed
returns c = search rules
