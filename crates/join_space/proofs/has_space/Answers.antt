use Rattle.join_space.proofs.Room.{both_spaced}
use Rattle.join_space.proofs.has_space.Goals as goal

pub returns : goal.returns
returns c = both_spaced c.args.desk.chunks.now c.args.desk.pieces.now c.args.desk.store.now c.args.first.now c.args.second.now c.count_needs-a.ensures c.count_needs-b.ensures c.has_room.ensures
