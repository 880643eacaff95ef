use Rattle.check_in_order.proofs.Passed.{passed_all}
use Rattle.check_in_order.proofs.in_order.Goals as goal

pub returns : goal.returns
returns c = λ e. passed_all c.loop-i.invariant (c.joined-2.ensures e) c.loop-i-test.false c.requires.source_nonzero
