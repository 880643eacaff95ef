use mathlib.Core.Path.{sym, ap}
use Rattle.sheet_records.specs.Kinds.{code}
use Rattle.sheet_records.proofs.OfKinds.{not_relocate}
use Rattle.sheet_records.proofs.Steps.{step_first, step_record, step_bad, step_end}
use Rattle.join_apart.proofs.Sparing.{first_none}
use Rattle.join_apart.proofs.Upto.{Walking, walking_start, upto_bad, upto_end, upto_here}
use Rattle.join_apart.proofs.Walks.{Unmoved, find_on, find_stop}
use Rattle.join_apart.proofs.moves.find_move.Goals as goal

pub loop-entry-init : goal.loop-entry-init
loop-entry-init c =
    step_first (Walking Unmoved c.args.records.now) c.into_iter-entry-iterator.ensures.into_iter_gives c.new-entry-items.ensures (walking_start Unmoved first_none)

pub returns-in_default : goal.returns-in_default
returns-in_default c l q =
    let (here, upto) = c.loop-entry.invariant in
    let bad = step_bad c.loop-entry.entry-iterator c.next.new.self here c.in-Some.ensures.steps c.in_default.is in
    upto_bad Unmoved (upto l q) bad.0 bad.1

pub returns-in-Relocate : goal.returns-in-Relocate
returns-in-Relocate c l q =
    let (here, upto) = c.loop-entry.invariant in
    let one = step_record c.loop-entry.entry-iterator c.next.new.self here c.in-Some.ensures.steps c.in-Ok.is in
    let e = c.in-Ok.entry in
    find_stop (code e.kind) e.a e.b e.c e.text.now (upto_here Unmoved (upto l q) one.0) (ap code c.in-Relocate.is)

pub loop-entry-preserved : goal.loop-entry-preserved
loop-entry-preserved c =
    let (here, upto) = c.loop-entry.invariant in
    let one = step_record c.loop-entry.entry-iterator c.next.new.self here c.in-Some.ensures.steps c.in-Ok.is in
    let e = c.in-Ok.entry in
    (one.1, λ l q. find_on (code e.kind) e.a e.b e.c e.text.now (upto_here Unmoved (upto l q) one.0) (not_relocate e.kind c.in_default-kind.not-Relocate))

pub returns : goal.returns
returns c l q =
    let (here, upto) = c.loop-entry.invariant in
    sym (upto_end Unmoved (upto l q) (step_end c.loop-entry.entry-iterator c.next.new.self here c.in-None.ensures.steps))
