use Rattle.replay_digest.proofs.Walks.{flag_none, flag_some}
use Rattle.replay_digest.proofs.mix_row.Goals as goal

pub returns-then-r-eq-NONE : goal.returns-then-r-eq-NONE
returns-then-r-eq-NONE c = cc (flag_none _ c.if-r-eq-NONE.true)

pub returns : goal.returns
returns c = cc (flag_some _ c.if-r-eq-NONE.false)
