use Rattle.indent_line_starts.proofs.Turns.{seek_none, seek_met, seek_more, seek_all}
use Rattle.indent_line_starts.proofs.next_start.Goals as goal

pub loop-i-init : goal.loop-i-init
loop-i-init c = seek_none _ _ _ _ _ c.requires.at_le_end

pub returns-then-begins : goal.returns-then-begins
returns-then-begins c = seek_met _ _ _ _ _ _ _ _ c.loop-i.invariant c.loop-i-test.true c.requires.end_in_bounds c.begins.ensures c.if-begins.true

pub loop-i-preserved : goal.loop-i-preserved
loop-i-preserved c = seek_more _ _ _ _ _ _ _ _ _ c.loop-i.invariant c.loop-i-test.true c.requires.end_in_bounds c.begins.ensures c.if-begins.false c.mark_past_byte-m.ensures

pub returns : goal.returns
returns c = seek_all _ _ _ _ _ _ _ c.loop-i.invariant c.loop-i-test.false
