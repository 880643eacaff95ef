use mathlib.Core.Path.{refl}
use native.Mathlib.Omega.{arith}
use Rattle.filed_entries.proofs.Closing.{closing_start, closing_turn}
use Rattle.filed_entries.proofs.close_gap.Goals as goal

pub loop-i-init : goal.loop-i-init
loop-i-init c = (refl, closing_start _ _ _, omega arith)

pub loop-i-preserved : goal.loop-i-preserved
loop-i-preserved c =
    let k = c.loop-i.invariant in
    let turn = c.loop-i-test.true in (
      k.0,
      closing_turn _ _ _ _ _ c.requires.at_lt_next (omega (arith, c.requires.next_le_end, c.requires.end_in_bounds, turn)) k.1,
      omega (arith, turn),
    )
