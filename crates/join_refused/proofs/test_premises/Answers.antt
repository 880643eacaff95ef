use Rattle.memory.proofs.Desks.{short_source}
use Rattle.join_refused.proofs.Refusing.{with_0, with_13, with_19, with_18}
use Rattle.join_refused.proofs.test_premises.Goals as goal

pub apart-requires : goal.apart-requires
apart-requires c = short_source c.requires

pub returns-then-not-apart : goal.returns-then-not-apart
returns-then-not-apart c =
    let a = c.args in with_18 a.first.now a.second.now a.desk.source.now a.desk.chunks.now a.desk.pieces.now a.desk.store.now c.apart.ensures c.if-not-apart.true

pub returns-then-not-both_alone : goal.returns-then-not-both_alone
returns-then-not-both_alone c =
    let a = c.args in
    with_19 a.first.now a.second.now a.desk.source.now a.desk.chunks.now a.desk.pieces.now a.desk.store.now c.apart.ensures c.if-not-apart.false c.both_alone.ensures c.if-not-both_alone.true

pub returns-then-not-has_space : goal.returns-then-not-has_space
returns-then-not-has_space c =
    let a = c.args in
    with_13 a.first.now a.second.now a.desk.source.now a.desk.chunks.now a.desk.pieces.now a.desk.store.now
    c.apart.ensures c.if-not-apart.false c.both_alone.ensures c.if-not-both_alone.false c.has_space.ensures c.if-not-has_space.true

pub returns : goal.returns
returns c =
    let a = c.args in
    with_0 a.first.now a.second.now a.desk.source.now a.desk.chunks.now a.desk.pieces.now a.desk.store.now
    c.apart.ensures c.if-not-apart.false c.both_alone.ensures c.if-not-both_alone.false c.has_space.ensures c.if-not-has_space.false
