use Rattle.memory_list.proofs.Move.{movable, move_done}
use Rattle.memory_list.proofs.move_run.Goals as goal

pub relink-requires : goal.relink-requires
relink-requires c = movable c.args.t.now c.requires.linked c.requires.move_at.parts c.args.first c.args.last c.args.n c.requires.move_at.moved

pub returns : goal.returns
returns c =
    move_done c.args.t.now c.relink.new.t c.args.first c.args.last c.args.n c.requires.linked c.requires.move_at c.relink.ensures
    c.relink.auto.t
