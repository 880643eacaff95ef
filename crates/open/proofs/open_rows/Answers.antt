use native.Mathlib.Omega.{arith}
use Rattle.open.proofs.Opening.{new_desk}
use Rattle.open.proofs.open_rows.Goals as goal

pub returns : goal.returns
returns c = new_desk _ _ _ _ _ _ c.requires.sized c.requires.opens c.fresh.ensures (omega arith) (omega arith) (omega arith)
