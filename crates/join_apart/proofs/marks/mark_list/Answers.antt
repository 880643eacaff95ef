use mathlib.Core.Path.{refl, ◌∙◌}
use Rattle.model_sheet.specs.Sheet.{call_of}
use Rattle.sheet_records.specs.Found.{recorded}
use Rattle.sheet_records.proofs.Steps.{step_first, step_record, step_bad, step_end}
use Rattle.check_bit_marks.proofs.Marking.{marks_bits}
use Rattle.join_apart.proofs.Marked.{edits_none, room_kept}
use Rattle.join_apart.proofs.Upto.{Walking, walking_start, upto_bad, upto_end, upto_here}
use Rattle.join_apart.proofs.Walks.{mark_on, mark_stop}
use Rattle.join_apart.proofs.marks.mark_list.Invariants.{Done}
use Rattle.join_apart.proofs.marks.mark_list.Goals as goal

pub loop-entry-init : goal.loop-entry-init
loop-entry-init c =
    let done = Done c.args.n c.args.marks.now c.args.marks.now in
    let first = step_first (Walking done c.args.records.now) c.into_iter-entry-iterator.ensures.into_iter_gives c.new-entry-items.ensures
    (walking_start done (edits_none c.args.n (marks_bits c.args.marks.now))) in
    (refl, first.0, first.1)

pub mark_record-requires : goal.mark_record-requires
mark_record-requires c = room_kept c.loop-entry.invariant.0 c.requires

pub returns-in_default : goal.returns-in_default
returns-in_default c l q =
    let (same, here, upto) = c.loop-entry.invariant in
    let bad = step_bad c.loop-entry.entry-iterator c.next.new.self here c.in-Some.ensures.steps c.in_default.is in
    upto_bad (Done c.args.n c.args.marks.now c.loop-entry.marks) (upto l q) bad.0 bad.1

pub returns-then-not-mark_record : goal.returns-then-not-mark_record
returns-then-not-mark_record c l q =
    let (same, here, upto) = c.loop-entry.invariant in
    let one = step_record c.loop-entry.entry-iterator c.next.new.self here c.in-Some.ensures.steps c.in-Ok.is in
    mark_stop c.args.n (call_of (recorded c.in-Ok.entry)) (upto_here (Done c.args.n c.args.marks.now c.loop-entry.marks) (upto l q) one.0) c.mark_record.ensures
    c.if-not-mark_record.true

pub loop-entry-preserved : goal.loop-entry-preserved
loop-entry-preserved c =
    let (same, here, upto) = c.loop-entry.invariant in
    let one = step_record c.loop-entry.entry-iterator c.next.new.self here c.in-Some.ensures.steps c.in-Ok.is in (
      c.mark_record.auto.marks ∙ same,
      one.1,
      λ l q. mark_on c.args.n (call_of (recorded c.in-Ok.entry)) (upto_here (Done c.args.n c.args.marks.now c.loop-entry.marks) (upto l q) one.0)
          c.mark_record.ensures c.if-not-mark_record.false,
    )

pub returns : goal.returns
returns c l q =
    let (same, here, upto) = c.loop-entry.invariant in
    upto_end (Done c.args.n c.args.marks.now c.loop-entry.marks) (upto l q) (step_end c.loop-entry.entry-iterator c.next.new.self here c.in-None.ensures.steps)
