use Rattle.sheet_records.proofs.OfKinds.{two_positions, one_position, three_positions}
use native.Mathlib.Omega.{arith}
use Rattle.sheet_records.proofs.kinds.Kind.positions.Goals as goal

pub returns-in-Remove : goal.returns-in-Remove
returns-in-Remove c = (two_positions c.args.self c.in-Remove.is, omega arith)

pub returns-in-AppendLeft : goal.returns-in-AppendLeft
returns-in-AppendLeft c = (one_position c.args.self c.in-AppendLeft.is, omega arith)

pub returns-in-Relocate : goal.returns-in-Relocate
returns-in-Relocate c = (three_positions c.args.self c.in-Relocate.is, omega arith)
