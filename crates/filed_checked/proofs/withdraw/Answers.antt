-- `filed_checked::withdraw` meets its contract.
use mathlib.Core.Path.{sym, subst}
use Rattle.filed.specs.Done.{Withdraws}
use Rattle.filed_taken.proofs.Judging.{kept_desk_of}
use Rattle.filed_taken.proofs.Says.{said}
use Rattle.filed_checked.proofs.Checked.{sitting_no_desk, sitting_no_record, sitting_yes}
use Rattle.filed_checked.proofs.withdraw.Goals as goal

pub returns-then-not-well_formed : goal.returns-then-not-well_formed
returns-then-not-well_formed c = sitting_no_desk (c.well_formed-2.ensures.no c.if-not-well_formed.true) (said c.from.ensures)

pub returns-in_default : goal.returns-in_default
returns-in_default c = sitting_no_record c.in_default.ensures (said c.from-in_default.ensures)

pub withdraw-withdrawn-requires : goal.withdraw-withdrawn-requires
withdraw-withdrawn-requires c =
    let beside = c.in-Some.ensures in record { taken = c.well_formed-2.ensures.yes c.if-not-well_formed.false; holds = beside.holds; desk = kept_desk_of beside }

pub returns-in-Ok : goal.returns-in-Ok
returns-in-Ok c = sitting_yes (c.well_formed-2.ensures.yes c.if-not-well_formed.false) c.in-Some.ensures c.in-Ok.ensures

pub returns-in-Err : goal.returns-in-Err
returns-in-Err c =
    let a = c.args in
    let n = c.withdraw-withdrawn.new in
    sitting_yes (c.well_formed-2.ensures.yes c.if-not-well_formed.false) c.in-Some.ensures
    (subst (Withdraws a.k a.source.now a.chunks.now a.pieces.now a.store.now a.words.now a.bytes.now n.chunks n.pieces n.store n.words n.bytes) (sym c.from-in-Err.ensures) c.in-Err.ensures)
