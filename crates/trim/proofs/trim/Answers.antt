use Rattle.model.specs.Call.{trim}
use Rattle.trim.proofs.Call.{asks_both}
use Rattle.trim.proofs.trim.Goals as goal

pub returns : goal.returns
returns c =
    let n = c.args.pattern in
    c.trim_sides.ensures (trim n) (asks_both n)
