-- `filed_checked::file` meets its contract.
use mathlib.Core.Path.{sym, subst}
use Rattle.filed.specs.Done.{Files}
use Rattle.filed_taken.proofs.Says.{said}
use Rattle.filed_checked.proofs.Checked.{sitting_no_desk, sitting_no_record, sitting_yes}
use Rattle.filed_checked.proofs.file.Goals as goal

pub returns-in_default : goal.returns-in_default
returns-in_default c = sitting_no_desk c.in_default.ensures (said c.from.ensures)

pub returns-in_default-record_taken : goal.returns-in_default-record_taken
returns-in_default-record_taken c = sitting_no_record c.in_default-record_taken.ensures (said c.from-in_default-record_taken.ensures)

pub file-requires : goal.file-requires
file-requires c =
    let (taken, above) = c.in-Some.ensures in
    record { desk = record { well_formed = taken.well_formed; above = above }; full = taken.full; holds = c.in-Some-record_taken.ensures.holds }

pub returns : goal.returns
returns c =
    let a = c.args in
    let n = c.file.new in
    sitting_yes c.in-Some.ensures.0 c.in-Some-record_taken.ensures
    (subst (Files a.call.now a.source.now a.chunks.now a.pieces.now a.store.now a.words.now a.bytes.now n.chunks n.pieces n.store n.words n.bytes) (sym c.from-2.ensures) c.file.ensures)
