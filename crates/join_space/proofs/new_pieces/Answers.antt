use Rattle.join_space.proofs.ByKind.{no_pieces, one_piece}
use Rattle.join_space.proofs.new_pieces.Goals as goal

pub returns-in-Remove : goal.returns-in-Remove
returns-in-Remove c = no_pieces c.args.kind c.in-Remove.is

pub returns-in_default : goal.returns-in_default
returns-in_default c = one_piece c.args.kind c.in_default.not-Remove c.in_default.not-Update c.in_default.not-Reset c.in_default.not-Relocate
