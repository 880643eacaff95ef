use Rattle.join_space.proofs.ByKind.{none_carried, all_carried}
use Rattle.join_space.proofs.new_bytes.Goals as goal

pub returns-in-Remove : goal.returns-in-Remove
returns-in-Remove c = none_carried c.args.kind c.args.n c.in-Remove.is

pub returns-in_default : goal.returns-in_default
returns-in_default c = all_carried c.args.kind c.args.n c.in_default.not-Remove c.in_default.not-Reset c.in_default.not-Relocate
