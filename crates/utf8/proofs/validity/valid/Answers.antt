use mathlib.Core.Path.{sym, ap, ◌∙◌}
use native.Mathlib.Omega.{arith}
use lib.ListN.{drop_of_length-le}
use Rattle.utf8.proofs.Texts.{utf8_nil}
use Rattle.utf8.specs.Rfc3629.{utf8}
use Rattle.utf8.proofs.Blocks.{ascii_pass, width_turn, width_none}
use Rattle.utf8.proofs.validity.valid.Goals as goal

pub loop-i-2-init : goal.loop-i-2-init
loop-i-2-init c =
    let l = c.loop-i in
    let a = c.ascii_to-i.ensures in (omega arith, a.inside, l.invariant.1 ∙ ascii_pass c.args.s.now l.i c.ascii_to-i.result a)

pub returns-then-w-eq0 : goal.returns-then-w-eq0
returns-then-w-eq0 c =
    let l = c.loop-i-2 in
    sym (l.invariant.2 ∙ width_none c.args.s.now l.i c.width_at-w.result
    (omega (arith, c.min-stop.ensures)) c.width_at-w.ensures c.if-w-eq0.true)

pub overflow_add-i-in-loop-i-2 : goal.overflow_add-i-in-loop-i-2
overflow_add-i-in-loop-i-2 c =
    let t = width_turn c.args.s.now c.loop-i-2.i
    c.width_at-w.result c.width_at-w.ensures c.if-w-eq0.false in omega (arith, t.1)

pub loop-i-2-preserved : goal.loop-i-2-preserved
loop-i-2-preserved c =
    let l = c.loop-i-2 in
    let t = width_turn c.args.s.now l.i c.width_at-w.result
    c.width_at-w.ensures c.if-w-eq0.false in (omega (arith, t.0), t.1, l.invariant.2 ∙ t.2)

pub returns : goal.returns
returns c =
    let l = c.loop-i in
    let e = drop_of_length-le c.args.s.now {i = l.i} (omega arith) in sym (l.invariant.1 ∙ ap utf8 e ∙ utf8_nil)
