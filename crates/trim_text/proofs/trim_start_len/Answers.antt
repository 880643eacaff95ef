use Rattle.trim_text.specs.Patterns.{pattern_number}
use Rattle.trim_text.proofs.Sides.{start_more, start_stop, start_over}
use Rattle.utf8.proofs.Texts.{turn}
use native.Mathlib.Omega.{arith}
use mathlib.Core.Path.{sym, ◌∙◌}
use Rattle.trim_text.proofs.trim_start_len.Goals as goal

pub returns-then-not-is_match : goal.returns-then-not-is_match
returns-then-not-is_match c =
    let e = sym c.decode.ensures ∙ c.in-Char.is in
    (c.loop-code.invariant.inside, start_stop (pattern_number c.args.pattern) c.args.text.now c.loop-code.i c.loop-code.invariant _ _ e (sym c.is_match.ensures ∙ c.if-not-is_match.true))

pub overflow_add-i : goal.overflow_add-i
overflow_add-i c =
    let e = sym c.decode.ensures ∙ c.in-Char.is in
    omega (arith, (turn c.args.text.now c.loop-code.i _ _ e).1)

pub loop-code-smaller : goal.loop-code-smaller
loop-code-smaller c =
    let e = sym c.decode.ensures ∙ c.in-Char.is in
    let t = turn c.args.text.now c.loop-code.i _ _ e in
    omega (arith, t.0, t.1)

pub loop-code-preserved : goal.loop-code-preserved
loop-code-preserved c =
    let e = sym c.decode.ensures ∙ c.in-Char.is in
    start_more (pattern_number c.args.pattern) c.args.text.now c.loop-code.i c.loop-code.invariant _ _ e (sym c.is_match.ensures ∙ c.if-not-is_match.false)

pub returns : goal.returns
returns c = (c.loop-code.invariant.inside, start_over (pattern_number c.args.pattern) c.args.text.now c.loop-code.i c.loop-code.invariant _ c.decode.ensures c.in_default.not-Char)
