use native.Mathlib.Omega.{arith}
use Rattle.memory_counting.proofs.Sums.{is_no}
use Rattle.check_bit_marks.specs.BitMarks.{bit_at}
use Rattle.check_links.proofs.Rest.{walking_none, walking_stop, walking_more, walking_ended}
use Rattle.check_links.proofs.Listing.{whole_decided}
use Rattle.check_links.proofs.walk.Goals as goal

pub loop-init : goal.loop-init
loop-init c = walking_none _ _ _ c.requires.source_value.0 c.requires.by_index

pub returns-in_default : goal.returns-in_default
returns-in_default c = whole_decided c.requires.source_value.1 (is_no (walking_stop c.loop.invariant (bit_at c.step.new.marks) c.loop-test.true c.in_default.ensures))

pub loop-preserved : goal.loop-preserved
loop-preserved c = walking_more c.loop.invariant _ c.loop-test.true c.in-Some.ensures _ c.back-link.ensures

pub returns : goal.returns
returns c = whole_decided c.requires.source_value.1 (walking_ended c.loop.invariant (omega arith) c.ended.ensures)
