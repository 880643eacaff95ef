use Rattle.open.proofs.Opening.{opened_refused, opened_0}
use Rattle.open.proofs.open_with.Goals as goal

pub returns-in-Err : goal.returns-in-Err
returns-in-Err c = opened_refused _ _ _ _ _ c.in-Err.ensures _

pub returns : goal.returns
returns c = opened_0 _ _ _ _ _ c.in_default.ensures _ c.open_rows.ensures
