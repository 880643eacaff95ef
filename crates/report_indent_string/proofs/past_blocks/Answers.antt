use mathlib.Core.Path.{refl}
use Prim.Native.Nat.{◌+◌}
use native.Mathlib.Omega.{arith}
use Rattle.report_indent_string.proofs.Tallies.{seeking_from, seeking_block}
use Rattle.report_indent_string.proofs.past_blocks.Goals as goal

pub loop-i-init : goal.loop-i-init
loop-i-init c = (omega arith, c.requires.0, refl)

pub returns-then-feeds-ne0 : goal.returns-then-feeds-ne0
returns-then-feeds-ne0 c = c.loop-i.invariant

pub loop-i-preserved : goal.loop-i-preserved
loop-i-preserved c = seeking_from c.args.s.now c.args.at c.loop-i.i (c.loop-i.i + c.args.n) c.loop-i.invariant (seeking_block c.args.s.now c.loop-i.i c.args.n (omega (arith, c.loop-i.invariant.1)) (c.feeds.ensures c.if-feeds-ne0.false))

pub returns : goal.returns
returns c = c.loop-i.invariant
