use mathlib.Core.Path.{ap}
use Prim.Native.Nat.{ℕ, ◌+◌}
use native.Mathlib.Omega.{arith}
use Rattle.model.specs.Text.{sum}
use Rattle.report_measures.specs.Measures.{measure_of}
use Rattle.report_measures.proofs.ByCharacters.{measure_le}
use Rattle.memory_fragments.proofs.Valid.{here_is, here_short}
use Rattle.report_totals.proofs.Counting.{sum_le, counting_more}
use Rattle.report_totals.proofs.total.Goals as goal

pub loop-t-init : goal.loop-t-init
loop-t-init c = rw (c.into_iter-t-iterator.ensures.into_iter_gives) (record { valid = c.requires.valid; short = c.requires.short; sum_is = omega arith })

pub count-n-requires-clause-t_value : goal.count-n-requires-clause-t_value
count-n-requires-clause-t_value c = here_is c.loop-t.invariant.valid c.in-Some.ensures.steps

pub count-n-requires-clause-t_len_bound : goal.count-n-requires-clause-t_len_bound
count-n-requires-clause-t_len_bound c = omega (arith, here_short c.loop-t.invariant.short c.in-Some.ensures.steps)

pub overflow_add-n : goal.overflow_add-n
overflow_add-n c =
    let m = c.args.m in
    let e = ap (sum (measure_of m)) c.in-Some.ensures.steps in
    omega (arith, e, sum_le (measure_of m) (measure_le m) c.args.texts c.requires.valid, c.requires.short, c.loop-t.invariant.sum_is, c.count-n.ensures)

pub loop-t-preserved : goal.loop-t-preserved
loop-t-preserved c = counting_more c.loop-t.invariant c.in-Some.ensures.steps (ap (λ (k : ℕ). c.loop-t.n + k) c.count-n.ensures)

pub returns : goal.returns
returns c = omega (arith, c.loop-t.invariant.sum_is, ap (sum (measure_of c.args.m)) c.in-None.ensures.steps.0)
