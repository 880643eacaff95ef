use mathlib.Core.Path.{refl}
use native.Mathlib.Omega.{arith}
use Rattle.report_indent_string.proofs.Tallies.{spacing_met, spacing_more, spacing_done}
use Rattle.report_indent_string.proofs.behind_spaces.Goals as goal

pub loop-i-init : goal.loop-i-init
loop-i-init c = (omega arith, c.requires, refl)

pub returns-then-s-i-ne32 : goal.returns-then-s-i-ne32
returns-then-s-i-ne32 c = spacing_met _ _ _ c.loop-i.invariant c.loop-i-test.true c.if-s-i-ne32.true

pub loop-i-preserved : goal.loop-i-preserved
loop-i-preserved c = spacing_more _ _ _ c.loop-i.invariant c.loop-i-test.true c.if-s-i-ne32.false

pub returns : goal.returns
returns c = spacing_done _ _ _ c.loop-i.invariant c.loop-i-test.false
