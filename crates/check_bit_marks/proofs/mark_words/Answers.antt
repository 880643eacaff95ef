use borrow.Author.Rules.{rules}
use native.Mathlib.Omega.{arith}
use Rattle.check_bit_marks.proofs.Marking.{whole_more, whole_tells}
use Rattle.check_bit_marks.proofs.mark_words.Goals as goal

pub loop-i-preserved : goal.loop-i-preserved
loop-i-preserved c = (
  omega arith,
  omega arith,
  omega arith,
  whole_more c.loop-i.invariant.3 (omega arith) (omega arith) (search rules),
)

pub returns : goal.returns
returns c = whole_tells c.loop-i.invariant.3 (omega arith) (omega arith) _ (omega arith)
