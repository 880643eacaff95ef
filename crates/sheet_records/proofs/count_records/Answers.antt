use native.Mathlib.Omega.{arith}
use Rattle.sheet_records.proofs.Walk.{Walked, walk_start, walk_turn, walk_end, walk_bad, walk_full}
use Rattle.sheet_records.proofs.Steps.{step_first, step_record, step_bad, step_end}
use Rattle.sheet_records.proofs.count_records.Goals as goal

pub loop-entry-init : goal.loop-entry-init
loop-entry-init c =
    let first = step_first (λ at. Walked c.args.s.now at 0 0) c.into_iter-entry-iterator.ensures.into_iter_gives c.new-entry-items.ensures (walk_start c.args.s.now) in
    (first.0, first.1, omega arith)

pub returns-in_default : goal.returns-in_default
returns-in_default c =
    let (here, walked, few) = c.loop-entry.invariant in
    let bad = step_bad c.loop-entry.entry-iterator c.next.new.self here c.in-Some.ensures.steps c.in_default.is in
    λ l q. walk_bad walked bad.0 bad.1 l q

pub returns-then-count-most : goal.returns-then-count-most
returns-then-count-most c =
    let (here, walked, few) = c.loop-entry.invariant in
    let one = step_record c.loop-entry.entry-iterator c.next.new.self here c.in-Some.ensures.steps c.in-Ok.is in
    walk_full (walk_turn walked one.0) c.args.most (omega (arith, c.if-count-most.true))

pub loop-entry-preserved : goal.loop-entry-preserved
loop-entry-preserved c =
    let (here, walked, few) = c.loop-entry.invariant in
    let one = step_record c.loop-entry.entry-iterator c.next.new.self here c.in-Some.ensures.steps c.in-Ok.is in
    (one.1, walk_turn walked one.0, omega (arith, few, c.if-count-most.false))

pub returns : goal.returns
returns c =
    let (here, walked, few) = c.loop-entry.invariant in
    walk_end walked c.args.most few (step_end c.loop-entry.entry-iterator c.next.new.self here c.in-None.ensures.steps)
