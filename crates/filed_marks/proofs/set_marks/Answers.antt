-- `filed_marks::set_marks` meets its contract.
use mathlib.Core.Path.{refl}
use native.Mathlib.Omega.{arith}
use Rattle.filed_taken.proofs.Says.{said}
use Rattle.filed_marks.proofs.OnRecord.{on_none, on_taken, judged}
use Rattle.filed_marks.proofs.Written.{refused_17, refused_21, marks_written}
use Rattle.filed_marks.proofs.set_marks.Goals as goal

pub returns-in_default : goal.returns-in_default
returns-in_default c = on_none c.in_default.ensures (said c.from.ensures) refl

pub returns-in-Err : goal.returns-in-Err
returns-in-Err c =
    on_taken c.in-Some.ensures
    (λ h l q. refused_17 c.args.k c.args.marks q (judged c.args.k h c.in-Err.ensures.0 l q) (λ z. omega (arith, z, c.in-Err.ensures.1)) (said c.from-in-Err.ensures))

pub returns-then-marks-gt-HIGHEST_MARKS : goal.returns-then-marks-gt-HIGHEST_MARKS
returns-then-marks-gt-HIGHEST_MARKS c =
    on_taken c.in-Some.ensures
    (λ h l q. refused_21 c.args.k c.args.marks q (judged c.args.k h c.in-Ok.ensures.0 l q) (omega (arith, c.if-marks-gt-HIGHEST_MARKS.true)) (said c.from-then-marks-gt-HIGHEST_MARKS.ensures))

pub returns : goal.returns
returns c =
    on_taken c.in-Some.ensures
    (λ h l q. marks_written c.args.k c.args.marks h q (judged c.args.k h c.in-Ok.ensures.0 l q) (omega (arith, c.if-marks-gt-HIGHEST_MARKS.false)) (refl, refl)
    c.in-Ok.i (omega (arith, c.in-Ok.ensures.1)))
