use native.Mathlib.Omega.{arith}
use Rattle.join.proofs.Making.{made_some, made_none}
use Rattle.join.proofs.run.run_list.Goals as goal

pub returns-then-n-gt0 : goal.returns-then-n-gt0
returns-then-n-gt0 c = made_some c.requires.counted c.if-n-gt0.true c.run_records.ensures

pub returns-else-n-gt0 : goal.returns-else-n-gt0
returns-else-n-gt0 c = made_none c.requires.counted c.requires.desk.well_formed (omega (arith, c.if-n-gt0.false))
