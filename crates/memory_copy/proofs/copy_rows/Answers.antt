use Prim.Native.Nat.{◌*◌}
use native.Mathlib.Omega.{arith}
use Rattle.memory_texts.proofs.Over.{over_nil}
use Rattle.memory_copy.proofs.Copying.{above_over}
use Rattle.memory_copy.proofs.copy_rows.Goals as goal

pub returns-then-n-eq0 : goal.returns-then-n-eq0
returns-then-n-eq0 c = rw c.if-n-eq0.true (over_nil c.args.p.now (c.args.to * 2))

pub returns : goal.returns
returns c =
    let u = c.requires.n_bound (omega arith) in
    let s = c.split_at_mut-rows.ensures in
    rw (c.put.ensures, s.front, s.back)
    (above_over c.args.p.now (c.args.at * 2) (c.args.to * 2) (c.args.n * 2) (omega (arith, u)) (omega (arith, c.requires.n_in_bounds)))
