use mathlib.Core.Path.{sym, ap, subst}
use Rattle.memory.specs.declared.Answer.{Answer}
use Rattle.join_lists.specs.Promises.{Joins}
use Rattle.join_checked.proofs.Checked.{joined_no, joined_yes}
use Rattle.join_checked.proofs.join.Goals as goal

pub returns-in_default : goal.returns-in_default
returns-in_default c =
    joined_no c.in_default.ensures (ap (λ (a : Answer). a.number) c.from.ensures) (ap (λ (a : Answer). a.value) c.from.ensures)

pub join-requires : goal.join-requires
join-requires c = record { well_formed = c.in-Some.ensures.0.well_formed; above = c.in-Some.ensures.1 }

pub returns : goal.returns
returns c =
    let a = c.args in
    let n = c.join.new in
    joined_yes c.in-Some.ensures.0
    (subst (Joins a.first.now a.second.now a.source.now a.chunks.now a.pieces.now a.store.now n.chunks n.pieces n.store) (sym c.from-2.ensures) c.join.ensures)
