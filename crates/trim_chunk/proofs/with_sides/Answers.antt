use Rattle.trim_chunk.proofs.Runs.{sides_written}
use Rattle.trim_chunk.proofs.with_sides.Goals as goal

pub returns : goal.returns
returns c =
    sides_written c.args.front c.args.r c.with_side-x.result c.with_side-q.result (c.args.near.at, c.args.near.n) (c.args.far.at, c.args.far.n) (c.args.text.at, c.args.text.n)
    c.with_side-x.ensures c.with_side-q.ensures
