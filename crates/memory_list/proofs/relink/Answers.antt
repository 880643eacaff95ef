use Rattle.memory_list.proofs.Move.{relinked}
use Rattle.memory_list.proofs.relink.Goals as goal

pub returns : goal.returns
returns c =
    relinked c.args.t.now c.join.new.t
    c.join-2.new.t c.join-3.new.t
    c.args.first c.args.last c.args.n
    c.get_row-f.result
    c.get_row-l.result
    c.get_row-m.result
    c.requires
    c.get_row-f.ensures
    c.get_row-l.ensures
    c.get_row-m.ensures
    c.join.ensures c.join-2.ensures
    c.join-3.ensures
