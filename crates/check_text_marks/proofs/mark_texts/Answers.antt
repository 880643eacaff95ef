use mathlib.Core.Path.{refl}
use native.Mathlib.Omega.{arith}
use Rattle.check_marks.proofs.Passing.{passes_none, passes_more, passes_no, passes_done}
use Rattle.check_bit_marks.proofs.Marking.{marks_bits}
use Rattle.check_text_marks.proofs.Marking.{run_texts}
use Rattle.check_text_marks.proofs.mark_texts.Goals as goal

pub loop-i-init : goal.loop-i-init
loop-i-init c = passes_none _ _ (marks_bits _)

pub loop-i-preserved : goal.loop-i-preserved
loop-i-preserved c = passes_more c.loop-i.invariant c.in_ok-top.ensures refl

pub returns-in_err-top : goal.returns-in_err-top
returns-in_err-top c =
    rw c.from_residual.ensures
    (run_texts _ _ _ (passes_no c.loop-i.invariant _ c.in_err-top.ensures refl c.loop-i-test.true))

pub returns : goal.returns
returns c = run_texts _ _ _ (passes_done c.loop-i.invariant _ (omega arith))
