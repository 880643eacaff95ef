use mathlib.Core.Path.{ap}
use Prim.Native.Nat.{ℕ, ◌+◌}
use native.Mathlib.Omega.{arith}
use lib.Dec.{eqb}
use Rattle.model.specs.Text.{LF}
use Rattle.model.proofs.Lists.{one_most}
use Rattle.memory_fragments.proofs.Valid.{here_short}
use Rattle.report_line_count.proofs.Lines.{lines_none, lines_more, lines_here, feeds_short, lines_bound, lines_done}
use Rattle.report_line_count.proofs.line_count.Goals as goal

pub loop-t-init : goal.loop-t-init
loop-t-init c =
    let new = c.new-t-items.ensures in
    rw (c.into_iter-t-iterator.ensures.into_iter_gives) (lines_none new.texts new.valid new.short)

pub line_feeds-n-requires : goal.line_feeds-n-requires
line_feeds-n-requires c = omega (arith, here_short c.loop-t.invariant.counting.short c.in-Some.ensures.steps)

pub overflow_add-n : goal.overflow_add-n
overflow_add-n c = omega (arith, lines_here c.loop-t.invariant (feeds_short _ _ _ _ c.requires) c.in-Some.ensures.steps, c.line_feeds-n.ensures)

pub loop-t-preserved : goal.loop-t-preserved
loop-t-preserved c = lines_more c.loop-t.invariant c.in-Some.ensures.steps (ap (λ (k : ℕ). c.loop-t.n + k) c.line_feeds-n.ensures) c.last_byte-last.ensures

pub overflow_sub-open : goal.overflow_sub-open
overflow_sub-open c = omega (arith, c.feed-open.ensures, one_most (eqb c.loop-t.last LF))

pub overflow_add-result : goal.overflow_add-result
overflow_add-result c = omega (arith, lines_bound _ _ _ _ c.requires c.loop-t.invariant)

pub returns : goal.returns
returns c = lines_done _ _ _ _ c.requires c.loop-t.invariant c.in-None.ensures.steps.0 c.feed-open.ensures
