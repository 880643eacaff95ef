use mathlib.Core.Path.{refl, sym, ◌∙◌}
use Rattle.model_sheet.specs.Sheet.{call_of}
use Rattle.sheet_records.specs.Found.{recorded}
use Rattle.sheet_records.proofs.Steps.{step_first, step_record, step_bad, step_end}
use Rattle.join_apart.specs.Moves.{edit_of}
use Rattle.join_apart.proofs.Walks.{spare_on, spare_stop}
use Rattle.join_apart.proofs.moves.spares.Invariants.{Spared}
use Rattle.join_apart.proofs.Upto.{Walking, walking_start, upto_bad, upto_end, upto_here}
use Rattle.join_apart.proofs.moves.spares.Goals as goal

pub loop-entry-init : goal.loop-entry-init
loop-entry-init c =
    step_first (Walking (Spared (edit_of c.args.moved)) c.args.records.now) c.into_iter-entry-iterator.ensures.into_iter_gives c.new-entry-items.ensures
    (walking_start (Spared (edit_of c.args.moved)) refl)

pub returns-in_default : goal.returns-in_default
returns-in_default c l q =
    let (here, upto) = c.loop-entry.invariant in
    let bad = step_bad c.loop-entry.entry-iterator c.next.new.self here c.in-Some.ensures.steps c.in_default.is in
    upto_bad (Spared (edit_of c.args.moved)) (upto l q) bad.0 bad.1

pub returns-then-not-spares_record : goal.returns-then-not-spares_record
returns-then-not-spares_record c l q =
    let (here, upto) = c.loop-entry.invariant in
    let one = step_record c.loop-entry.entry-iterator c.next.new.self here c.in-Some.ensures.steps c.in-Ok.is in
    let x = edit_of c.args.moved in
    spare_stop x (call_of (recorded c.in-Ok.entry)) (upto_here (Spared x) (upto l q) one.0) (sym c.spares_record.ensures ∙ c.if-not-spares_record.true)

pub loop-entry-preserved : goal.loop-entry-preserved
loop-entry-preserved c =
    let (here, upto) = c.loop-entry.invariant in
    let one = step_record c.loop-entry.entry-iterator c.next.new.self here c.in-Some.ensures.steps c.in-Ok.is in
    let x = edit_of c.args.moved in
    (one.1, λ l q. spare_on x (call_of (recorded c.in-Ok.entry)) (upto_here (Spared x) (upto l q) one.0) (sym c.spares_record.ensures ∙ c.if-not-spares_record.false))

pub returns : goal.returns
returns c l q =
    let (here, upto) = c.loop-entry.invariant in
    sym (upto_end (Spared (edit_of c.args.moved)) (upto l q) (step_end c.loop-entry.entry-iterator c.next.new.self here c.in-None.ensures.steps))
