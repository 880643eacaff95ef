use Prim.Native.Nat.{◌+◌}
use native.Mathlib.Omega.{arith}
use Rattle.memory_layout.specs.Layout.{RECORD_MARKS}
use Rattle.filed_marks.proofs.Sums.{summing_none, summing_more, summing_all}
use Rattle.filed_marks.proofs.sum.Goals as goal

pub loop-i-init : goal.loop-i-init
loop-i-init c = summing_none _

pub loop-i-preserved : goal.loop-i-preserved
loop-i-preserved c =
    let byte = c.type_inv.bytes (RECORD_MARKS + c.loop-i.i) in
    summing_more c.loop-i.invariant (omega (arith, c.loop-i-test.true, c.requires.bytes_len, c.requires.count_bound)) (omega (arith, byte))

pub returns : goal.returns
returns c = summing_all c.loop-i.invariant (omega (arith, c.loop-i-test.false, c.loop-i.auto.i-end))
