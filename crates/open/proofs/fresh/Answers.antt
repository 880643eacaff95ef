use Rattle.open.proofs.Opening.{fresh_of}
use Rattle.open.proofs.fresh.Goals as goal

pub returns : goal.returns
returns c =
    fresh_of c.put_row.ensures c.put_row-2.ensures
    c.put_row.auto.t c.put_row-2.auto.t
