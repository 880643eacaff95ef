use Rattle.model.specs.Call.{trim_end}
use Rattle.trim.proofs.Call.{asks_end}
use Rattle.trim.proofs.trim_end.Goals as goal

pub returns : goal.returns
returns c =
    let n = c.args.pattern in
    c.trim_sides.ensures (trim_end n) (asks_end n)
