use Rattle.trim_chunk.proofs.Runs.{near_written}
use Rattle.trim_chunk.proofs.with_near.Goals as goal

pub returns : goal.returns
returns c = near_written c.args.front c.args.r _ (c.args.run.at, c.args.run.n) c.with_side.ensures
