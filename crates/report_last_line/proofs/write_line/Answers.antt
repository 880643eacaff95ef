use native.Mathlib.Omega.{arith}
use Rattle.report_last_line.proofs.Lines.{forwards_none, forwards_done, forwards_at, forwards_room, forwards_more}
use Rattle.report_last_line.proofs.write_line.Goals as goal

pub from_place-t-items-requires-clause-ends : goal.from_place-t-items-requires-clause-ends
from_place-t-items-requires-clause-ends c = λ e. absurd (omega (arith, c.requires.line_from.below, e))

pub loop-t-init : goal.loop-t-init
loop-t-init c = rw (c.into_iter-t-iterator.ensures.into_iter_gives) (forwards_none _ _ _ _ _ _ _ _ _ _ _ c.requires.line_from c.requires.n_in_bounds c.from_place-t-items.ensures.texts)

pub put_from-o-requires-clause-at_in_bounds : goal.put_from-o-requires-clause-at_in_bounds
put_from-o-requires-clause-at_in_bounds c = forwards_at c.loop-t.invariant c.in-Some.ensures.steps

pub put_from-o-requires-clause-text_in_bounds : goal.put_from-o-requires-clause-text_in_bounds
put_from-o-requires-clause-text_in_bounds c = forwards_room c.loop-t.invariant c.in-Some.ensures.steps

pub loop-t-preserved : goal.loop-t-preserved
loop-t-preserved c = forwards_more c.loop-t.invariant c.in-Some.ensures.steps c.put_from-o.ensures

pub shape_of-out : goal.shape_of-out
shape_of-out c = c.loop-t.invariant.writing.same

pub returns : goal.returns
returns c = forwards_done c.loop-t.invariant c.in-None.ensures.steps.0
