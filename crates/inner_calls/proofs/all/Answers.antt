use mathlib.Core.Path.{◌∙◌}
use Prim.Native.Nat.{◌-◌}
use native.Mathlib.Omega.{arith}
use lib.ListN.{length-set}
use Rattle.inner_calls.proofs.all.Goals as goal

pub loop-i-preserved : goal.loop-i-preserved
loop-i-preserved c = (
  c.step-made.ensures,
  omega (arith, c.loop-i-test.true),
  c.loop-i.invariant.2,
  simp length-set c.loop-i.invariant.3,
  c.loop-i.invariant.4,
  c.step-made.auto.chunks ∙ c.loop-i.invariant.5,
  c.step-made.auto.pieces ∙ c.loop-i.invariant.6,
  c.step-made.auto.store ∙ c.loop-i.invariant.7,
  simp length-set c.loop-i.invariant.8,
)
