use mathlib.Core.Path.{sym, subst}
use Rattle.join_refused.specs.Refused.{BothAloneOn}
use Rattle.join_refused.proofs.Refusing.{first_alone, first_refused}
use Rattle.join_refused.proofs.both_alone.Goals as goal

pub returns-then-each_alone : goal.returns-then-each_alone
returns-then-each_alone c =
    first_alone c.args.first.now c.args.second.now c.args.desk.source.now c.args.desk.chunks.now c.args.desk.pieces.now c.args.desk.store.now
    c.each_alone.ensures c.if-each_alone.true c.each_alone-then-each_alone.ensures

pub returns-else-each_alone : goal.returns-else-each_alone
returns-else-each_alone c =
    let a = c.args in
    subst (BothAloneOn a.first.now a.second.now a.desk) (sym c.if-each_alone.false)
    (first_refused a.first.now a.second.now a.desk.source.now a.desk.chunks.now a.desk.pieces.now a.desk.store.now c.each_alone.ensures c.if-each_alone.false)
