use Rattle.report_is_empty.proofs.Empty.{blank_all, blank_found, blank_more, blank_done}
use Rattle.report_is_empty.proofs.is_empty.Goals as goal

pub loop-t-init : goal.loop-t-init
loop-t-init c = blank_all c.into_iter-t-iterator.ensures.into_iter_gives c.of_chunks-t-items.ensures.texts c.of_chunks-t-items.ensures.valid

pub returns-then-filled : goal.returns-then-filled
returns-then-filled c = blank_found _ _ _ _ c.loop-t.invariant c.in-Some.ensures.steps c.if-filled.ensures

pub loop-t-preserved : goal.loop-t-preserved
loop-t-preserved c = blank_more c.loop-t.invariant c.in-Some.ensures.steps c.if-filled.ensures

pub returns : goal.returns
returns c = blank_done _ _ _ _ c.loop-t.invariant c.in-None.ensures.steps.0
