use Rattle.sheet_records.proofs.Steps.{step_first, step_record, step_bad, step_end}
use Rattle.join_alone.proofs.Copy.{lengths_on}
use Rattle.join_alone.proofs.Trials.{Trying, trying_start, trying_turn, trying_stop, trying_bad, trying_end}
use Rattle.join_alone.proofs.each_alone_by.Goals as goal

pub loop-entry-init : goal.loop-entry-init
loop-entry-init c =
    let a = c.args in
    let first = step_first (Trying a.desk.source.now a.desk.chunks.now a.desk.pieces.now a.desk.store.now a.records.now) c.into_iter-entry-iterator.ensures.into_iter_gives
    c.new-entry-items.ensures (trying_start a.desk.source.now a.desk.chunks.now a.desk.pieces.now a.desk.store.now a.records.now) in
    (first.0, first.1, c.requires.lengths)

pub accepted-ok-requires : goal.accepted-ok-requires
accepted-ok-requires c = record { well_formed = c.requires.well_formed; lengths = c.loop-entry.invariant.2 }

pub returns-in_default : goal.returns-in_default
returns-in_default c =
    let a = c.args in
    let (here, trying, same) = c.loop-entry.invariant in
    let bad = step_bad c.loop-entry.entry-iterator c.next.new.self here c.in-Some.ensures.steps c.in_default.is in
    trying_bad a.desk.source.now a.desk.chunks.now a.desk.pieces.now a.desk.store.now a.records.now trying bad.0 bad.1

pub returns-then-not-ok : goal.returns-then-not-ok
returns-then-not-ok c =
    let a = c.args in
    let (here, trying, same) = c.loop-entry.invariant in
    let one = step_record c.loop-entry.entry-iterator c.next.new.self here c.in-Some.ensures.steps c.in-Ok.is in
    trying_stop a.desk.source.now a.desk.chunks.now a.desk.pieces.now a.desk.store.now a.records.now trying one.0 c.accepted-ok.ensures c.if-not-ok.true

pub loop-entry-preserved : goal.loop-entry-preserved
loop-entry-preserved c =
    let a = c.args in
    let (here, trying, same) = c.loop-entry.invariant in
    let one = step_record c.loop-entry.entry-iterator c.next.new.self here c.in-Some.ensures.steps c.in-Ok.is in (
      one.1,
      trying_turn a.desk.source.now a.desk.chunks.now a.desk.pieces.now a.desk.store.now a.records.now trying one.0 c.accepted-ok.ensures c.if-not-ok.false,
      lengths_on same (record { chunks = c.accepted-ok.auto.t; pieces = c.accepted-ok.auto.p; store = c.accepted-ok.auto.s }),
    )

pub returns : goal.returns
returns c =
    let a = c.args in
    let (here, trying, same) = c.loop-entry.invariant in
    trying_end a.desk.source.now a.desk.chunks.now a.desk.pieces.now a.desk.store.now a.records.now trying (step_end c.loop-entry.entry-iterator c.next.new.self here c.in-None.ensures.steps)
