use Rattle.report_indent_string.proofs.Tallies.{seeking_from, seeking_met, seeking_more, seeking_done}
use Rattle.report_indent_string.proofs.next_line.Goals as goal

pub loop-i-init : goal.loop-i-init
loop-i-init c = seeking_from c.args.s.now c.args.at c.past_blocks.result c.past_blocks-from.result c.past_blocks.ensures c.past_blocks-from.ensures

pub returns-then-s-i-eq10 : goal.returns-then-s-i-eq10
returns-then-s-i-eq10 c = seeking_met _ _ _ c.loop-i.invariant c.loop-i-test.true c.if-s-i-eq10.true

pub loop-i-preserved : goal.loop-i-preserved
loop-i-preserved c = seeking_more _ _ _ c.loop-i.invariant c.loop-i-test.true c.if-s-i-eq10.false

pub returns : goal.returns
returns c = seeking_done _ _ _ c.loop-i.invariant c.loop-i-test.false
