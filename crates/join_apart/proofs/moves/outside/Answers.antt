use Rattle.join_apart.proofs.Outside.{outside_left, outside_right}
use Rattle.join_apart.proofs.moves.outside.Goals as goal

pub returns-then-p-from : goal.returns-then-p-from
returns-then-p-from c = outside_left c.args.from c.args.to c.args.p c.if-p-from.true

pub returns-else-p-from : goal.returns-else-p-from
returns-else-p-from c = outside_right c.args.from c.args.to c.args.p c.if-p-from.false
