use borrow.Author.Tests.{eq-eqb}
use native.Mathlib.Omega.{arith}
use Rattle.check_bit_marks.proofs.Marking.{stretch_none}
use Rattle.check_bit_marks.proofs.mark_tail.Goals as goal

pub returns-then-n-eq0 : goal.returns-then-n-eq0
returns-then-n-eq0 c = rw (eq-eqb c.args.n 0 c.if-n-eq0.true) (stretch_none _ _ _ c.if-n-eq0.true (omega arith))
