use native.Mathlib.Omega.{arith}
use Rattle.check_bit_marks.proofs.Bits.{part_shifts}
use Rattle.check_bit_marks.proofs.part.Goals as goal

pub returns : goal.returns
returns c = part_shifts c.args.lo c.args.n (omega arith)
