use Rattle.replay_digest.proofs.Walks.{digest_is}
use Rattle.replay_digest.proofs.digest.Goals as goal

pub returns : goal.returns
returns c = digest_is _ _ _ _ c.requires.readable.linked c.mix_rows-h.ensures c.mix_texts.ensures
