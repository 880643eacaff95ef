use mathlib.Core.Path.{◌≡◌, ◌∙◌}
use Prim.Native.Nat.{◌+◌, ◌-◌, ◌<◌}
use native.Mathlib.Omega.{arith}
use lib.ListN.{take, drop, get_or}
use lib.Seq.{get_or-take, get_or-drop}
use Rattle.utf8.proofs.Blocks.{or_more}
use Rattle.utf8.proofs.validity.joined_bits.Goals as goal

pub loop-b-preserved : goal.loop-b-preserved
loop-b-preserved c k l =
    let s = c.args.s.now in
    let i = c.args.i in
    let j = c.loop-b.b-index in
    let h : c.loop-b.b-index < c.args.i + 32 - c.args.i = omega arith in
    let e : get_or (take (c.args.i + 32 - c.args.i) (drop c.args.i c.args.s.now)) c.loop-b.b-index 0 ≡ get_or c.args.s.now (c.args.i + c.loop-b.b-index) 0 =
    get_or-take (i + 32 - i) (drop i s) j 0 h ∙ get_or-drop i s j 0 in
    rw e (or_more s i j c.loop-b.bits c.loop-b.invariant k l)
