use Rattle.edit_scratch.proofs.Counting.{finish_written, finish_unwritten}
use Rattle.edit_scratch.proofs.finish.Goals as goal

pub returns-then-written : goal.returns-then-written
returns-then-written c = finish_written c.written.ensures c.if-written.true

pub returns : goal.returns
returns c = finish_unwritten c.written.ensures c.if-written.false
