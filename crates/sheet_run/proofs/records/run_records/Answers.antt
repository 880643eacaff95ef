use Prim.Native.Nat.{◌+◌}
use mathlib.Core.Path.{sym, ap, subst}
use lib.ListN.{set}
use Rattle.memory.specs.declared.Answer.{Answer}
use Rattle.sheet_records.proofs.Walk.{records_taken, not_none}
use Rattle.sheet_run.proofs.Running.{Running, running_start, running_next, running_turn, running_end}
use Rattle.sheet_run.proofs.records.run_records.Goals as goal

pub loop-i-init : goal.loop-i-init
loop-i-init c = (running_start c.requires.desk c.requires.counted, c.requires.counted)

pub loop-i-preserved : goal.loop-i-preserved
loop-i-preserved c = (
  subst (λ k. Running c.args.records.now c.args.source.now c.args.chunks.now c.args.pieces.now c.args.store.now c.args.answers.now c.args.n c.in-Some.entry.next (c.loop-i.i + 1)
      c.record_call-outcome.new.chunks c.record_call-outcome.new.pieces c.record_call-outcome.new.store (set c.loop-i.answers c.loop-i.i k) c.record_call-outcome.result.used)
      (sym (ap (λ (a : Answer). a.number) c.from.ensures))
      (running_turn c.loop-i.invariant.0 (record { one = _; here = records_taken c.in-Some.ensures; left = c.record_call-outcome.ensures }) c.loop-i-test.true
      (record { chunks = c.record_call-outcome.auto.chunks; pieces = c.record_call-outcome.auto.pieces; store = c.record_call-outcome.auto.store })),
  c.loop-i.invariant.1,
)

pub returns-in_default : goal.returns-in_default
returns-in_default c =
    let next = running_next c.loop-i.invariant.0 c.loop-i-test.true in
    λ list e. not_none c.args.records.now c.loop-i.at next c.in_default.ensures

pub returns : goal.returns
returns c = λ list e. running_end c.loop-i.invariant.0 c.loop-i-test.false list e c.loop-i.invariant.1
