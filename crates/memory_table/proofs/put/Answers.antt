use native.Mathlib.Omega.{arith}
use lib.ListN.{length-set}
use Rattle.memory_table.proofs.Copying.{front_suc}
use Rattle.memory_table.proofs.put.Goals as goal

pub loop-i-preserved : goal.loop-i-preserved
loop-i-preserved g c =
    let k = c.loop-i.invariant in
    (k.0, omega (arith, k.0, c.loop-i-test.true), simp length-set k.2, front_suc _ _ _ _ _ (omega (arith, k.0, c.loop-i-test.true)) (omega (arith, k.0, k.2, c.loop-i-test.true, c.requires)) k.3 c.index-items-i.is)
