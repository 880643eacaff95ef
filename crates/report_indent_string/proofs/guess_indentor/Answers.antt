use native.Mathlib.Omega.{arith}
use Rattle.report_indent_string.proofs.Tallies.{tallied_none, tallied_end, tallied_less, tallied_more, guessed_tab, guessed_spaces}
use Rattle.report_indent_string.proofs.guess_indentor.Goals as goal

pub loop-i-init : goal.loop-i-init
loop-i-init c = tallied_none _

pub behind_spaces-end-requires : goal.behind_spaces-end-requires
behind_spaces-end-requires c = c.loop-i.invariant.inside

pub bounds-source-i : goal.bounds-source-i
bounds-source-i c = omega (arith, c.loop-i-test.true)

pub overflow_sub-end : goal.overflow_sub-end
overflow_sub-end c = omega (arith, (tallied_end c.loop-i.invariant c.loop-i-test.true _ c.behind_spaces-end.ensures).0)

pub counted-t-requires : goal.counted-t-requires
counted-t-requires c =
    let p = c.requires in
    (omega (arith, c.loop-i.invariant.few_tabs, c.loop-i.invariant.inside, p), omega (arith, c.loop-i.invariant.few_spaced, c.loop-i.invariant.inside, p))

pub next_line-i-requires : goal.next_line-i-requires
next_line-i-requires c = (tallied_end c.loop-i.invariant c.loop-i-test.true _ c.behind_spaces-end.ensures).1

pub loop-i-smaller : goal.loop-i-smaller
loop-i-smaller c =
    tallied_less c.loop-i.invariant c.loop-i-test.true _
    c.behind_spaces-end.ensures _ c.next_line-i.ensures

pub loop-i-preserved : goal.loop-i-preserved
loop-i-preserved c =
    tallied_more c.loop-i.invariant c.loop-i-test.true _
    c.behind_spaces-end.ensures _ c.next_line-i.ensures _
    c.counted-t.ensures.0 c.counted-t.ensures.1

pub returns-then-t : goal.returns-then-t
returns-then-t c = guessed_tab c.loop-i.invariant c.loop-i-test.false c.if-t.true

pub overflow_cast-result : goal.overflow_cast-result
overflow_cast-result c = omega (arith, c.loop-i.invariant.short, c.requires)

pub overflow_cast-result-2 : goal.overflow_cast-result-2
overflow_cast-result-2 c = omega (arith, c.loop-i.invariant.held.inside, c.requires)

pub returns : goal.returns
returns c = guessed_spaces c.loop-i.invariant c.loop-i-test.false c.if-t.false
