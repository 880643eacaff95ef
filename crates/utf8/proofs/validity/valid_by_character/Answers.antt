use mathlib.Core.Path.{sym, ap, ◌∙◌}
use native.Mathlib.Omega.{arith}
use lib.ListN.{drop_of_length-le}
use Rattle.utf8.specs.Rfc3629.{utf8}
use Rattle.utf8.proofs.Texts.{turn, stops, invalid_below, end_past, utf8_nil}
use Rattle.utf8.proofs.validity.valid_by_character.Goals as goal

pub overflow_add-i : goal.overflow_add-i
overflow_add-i c =
    let t = turn c.args.s.now c.loop-width.i _ _
    (sym c.decode.ensures ∙ c.in-Char.is) in omega (arith, t.1)

pub loop-width-smaller : goal.loop-width-smaller
loop-width-smaller c =
    let t = turn c.args.s.now c.loop-width.i _ _
    (sym c.decode.ensures ∙ c.in-Char.is) in omega (arith, t.0, t.1)

pub loop-width-preserved : goal.loop-width-preserved
loop-width-preserved c =
    let l = c.loop-width in
    let t = turn c.args.s.now l.i _ _ (sym c.decode.ensures
    ∙ c.in-Char.is) in (t.1, l.invariant.1 ∙ t.2)

pub returns-in-Invalid : goal.returns-in-Invalid
returns-in-Invalid c =
    let x = c.args in
    let l = c.loop-width in
    let e = sym c.decode.ensures ∙ c.in-Invalid.is in sym (l.invariant.1 ∙ stops x.s.now l.i (invalid_below x.s.now l.i e) e)

pub returns-in-End : goal.returns-in-End
returns-in-End c =
    let x = c.args in
    let l = c.loop-width in
    let e = sym c.decode.ensures ∙ c.in-End.is in sym (l.invariant.1 ∙ ap utf8 (drop_of_length-le x.s.now (end_past x.s.now l.i e)) ∙ utf8_nil)
