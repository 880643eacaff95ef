use native.Mathlib.Omega.{arith}
use Rattle.check_marks.proofs.Marking.{marking_more, marking_tells}
use Rattle.check_marks.proofs.mark.Goals as goal

pub loop-i-preserved : goal.loop-i-preserved
loop-i-preserved c = (omega arith, omega arith, marking_more c.loop-i.invariant.2 c.loop-i.invariant.0 (omega arith))

pub returns : goal.returns
returns c = marking_tells _ c.loop-i.invariant.2 (omega arith) c.requires (omega arith)
