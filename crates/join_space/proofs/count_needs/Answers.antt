use Rattle.sheet_records.proofs.Steps.{step_first, step_record, step_bad, step_end}
use Rattle.join_space.proofs.Counting.{Counting, counting_start, counting_turn, counting_end, counting_bad}
use Rattle.join_space.proofs.count_needs.Goals as goal

pub loop-entry-init : goal.loop-entry-init
loop-entry-init c =
    step_first (λ at. Counting c.args.records.now at 0 0 0) c.into_iter-entry-iterator.ensures.into_iter_gives c.new-entry-items.ensures (counting_start c.args.records.now)

pub loop-entry-preserved : goal.loop-entry-preserved
loop-entry-preserved c =
    let (here, counting) = c.loop-entry.invariant in
    let one = step_record c.loop-entry.entry-iterator c.next.new.self here c.in-Some.ensures.steps c.in-Ok.is in
    (one.1, counting_turn counting one.0 c.new_pieces.ensures c.new_bytes.ensures)

pub returns-in_default : goal.returns-in_default
returns-in_default c =
    let (here, counting) = c.loop-entry.invariant in
    let bad = step_bad c.loop-entry.entry-iterator c.next.new.self here c.in-Some.ensures.steps c.in_default.is in
    counting_bad counting bad.0 bad.1

pub returns : goal.returns
returns c =
    let (here, counting) = c.loop-entry.invariant in
    counting_end counting (step_end c.loop-entry.entry-iterator c.next.new.self here c.in-None.ensures.steps)
