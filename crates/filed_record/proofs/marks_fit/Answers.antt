use Prim.Native.Nat.{◌<◌}
use native.Mathlib.Omega.{arith}
use Rattle.filed_record.proofs.Marks.{low_start, low_turn, low_judged, high_judged, marks_part}
use Rattle.filed_record.proofs.marks_fit.Goals as goal

pub loop-marks-init : goal.loop-marks-init
loop-marks-init c = low_start c.args.bytes.now

pub returns-then-marks-gt-HIGHEST_MARKS : goal.returns-then-marks-gt-HIGHEST_MARKS
returns-then-marks-gt-HIGHEST_MARKS c =
    let i = c.loop-marks.marks-index in
    let turn : i < c.args.count = omega (arith, c.loop-marks-test.true) in
    high_judged _ _ i turn (omega (arith, c.if-marks-gt-HIGHEST_MARKS.true, marks_part c.args.bytes.now c.args.count i turn))

pub loop-marks-preserved : goal.loop-marks-preserved
loop-marks-preserved c =
    let i = c.loop-marks.marks-index in
    let turn : i < c.args.count = omega (arith, c.loop-marks-test.true) in
    low_turn c.args.bytes.now i c.loop-marks.invariant (omega (arith, c.if-marks-gt-HIGHEST_MARKS.false, marks_part c.args.bytes.now c.args.count i turn))

pub returns : goal.returns
returns c = low_judged _ _ c.loop-marks.marks-index c.loop-marks.invariant (omega (arith, c.loop-marks-test.false, c.requires))
