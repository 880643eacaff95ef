use Rattle.model.specs.Call.{trim_start}
use Rattle.trim.proofs.Call.{asks_start}
use Rattle.trim.proofs.trim_start.Goals as goal

pub returns : goal.returns
returns c =
    let n = c.args.pattern in
    c.trim_sides.ensures (trim_start n) (asks_start n)
