use Rattle.indent_write.proofs.Turns.{putting_none, putting_more, putting_short, putting_all, putting_mark}
use Rattle.indent_write.proofs.indent_into.Goals as goal

pub loop-b-init : goal.loop-b-init
loop-b-init c = putting_none _ _ _ _ _ c.requires.place_in_bounds

pub returns-in_err-end : goal.returns-in_err-end
returns-in_err-end c = rw c.from_residual.ensures (putting_short c.loop-b.invariant c.requires.text_value c.loop-b-test.true c.in_err-end.ensures)

pub loop-b-preserved : goal.loop-b-preserved
loop-b-preserved c = putting_more c.loop-b.invariant c.loop-b-test.true c.in_ok-end.ensures c.mark_on-m.ensures

pub returns : goal.returns
returns c = (putting_all c.loop-b.invariant c.requires.text_value c.loop-b-test.false, putting_mark c.loop-b.invariant c.loop-b-test.false)
