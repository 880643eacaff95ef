-- `sheet_records::u32_at` meets its contract: four-at says what four bytes stand for.
use native.Mathlib.Omega.{arith}
use Rattle.sheet_records.proofs.Fields.{four_at}
use Rattle.sheet_records.proofs.u32_at.Goals as goal

pub returns : goal.returns
returns c = omega (arith, four_at c.args.s.now c.args.at c.requires)
