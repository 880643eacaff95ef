use Rattle.memory_list.proofs.Move.{joined}
use Rattle.memory_list.proofs.join.Goals as goal

pub returns : goal.returns
returns c =
    joined c.args.t.now
    c.put_row.new.t c.put_row-2.new.t
    c.args.a
    c.args.b
    c.get_row-r.result c.get_row-s.result
    c.get_row-r.ensures
    c.put_row.ensures c.get_row-s.ensures
    c.put_row-2.ensures
