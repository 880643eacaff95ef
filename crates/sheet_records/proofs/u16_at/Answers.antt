-- `sheet_records::u16_at` meets its contract: two_at says what two bytes stand for.
use native.Mathlib.Omega.{arith}
use Rattle.sheet_records.proofs.Fields.{two_at}
use Rattle.sheet_records.proofs.u16_at.Goals as goal

pub returns : goal.returns
returns c = omega (arith, two_at c.args.s.now c.args.at c.requires)
