-- `filed_checked::freeze` meets its contract.
use mathlib.Core.Path.{◌≡◌, sym, subst}
use mathlib.Core.List.{List}
use mathlib.Core.Option.{some}
use native.Mathlib.Omega.{arith}
use Rattle.model_filed.specs.Filed.{Entry}
use Rattle.filed_record.specs.Record.{entries_of, KeptTaken}
use Rattle.filed_record.specs.Promises.{FrozenOn}
use Rattle.filed_taken.proofs.Says.{said}
use Rattle.filed_checked.proofs.Checked.{sitting_no_desk, sitting_no_record, sitting_yes, frozen_filed, frozen_edit}
use Rattle.filed_checked.proofs.freeze.Goals as goal

pub returns-in_default : goal.returns-in_default
returns-in_default c = sitting_no_desk c.in_default.ensures (said c.from.ensures)

pub returns-in_default-record_taken : goal.returns-in_default-record_taken
returns-in_default-record_taken c = sitting_no_record c.in_default-record_taken.ensures (said c.from-in_default-record_taken.ensures)

pub returns-then-beside-ne0 : goal.returns-then-beside-ne0
returns-then-beside-ne0 c =
    let taken = c.in-Some.ensures.0 in
    let beside = c.in-Some-record_taken.ensures in
    sitting_yes taken beside (frozen_filed beside taken.well_formed c.if-beside-ne0.true (said c.from-then-beside-ne0.ensures))

pub freeze-requires : goal.freeze-requires
freeze-requires c = record { well_formed = c.in-Some.ensures.0.well_formed; above = c.in-Some.ensures.1 }

pub returns : goal.returns
returns c =
    let a = c.args in
    let n = c.freeze.new in
    let beside = c.in-Some-record_taken.ensures in
    sitting_yes c.in-Some.ensures.0 beside
    (λ l q k. subst (FrozenOn a.start a.end a.source.now a.chunks.now a.pieces.now a.store.now a.words.now a.bytes.now n.chunks n.pieces n.store l) (sym c.from-2.ensures)
    (frozen_edit beside c.if-beside-ne0.false c.freeze.ensures l q k))
