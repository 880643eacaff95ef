use mathlib.Core.Path.{ap}
use mathlib.Core.Bool.{true, false}
use native.Mathlib.Omega.{arith}
use Rattle.memory_table.specs.declared.Row.{Row}
use Rattle.memory_list.specs.Insert.{Placed}
use Rattle.memory_list.proofs.Insert.{room_i}
use Rattle.edit_update_steps.proofs.Walk.{running_start, run_done, step_ends, step_inside, step_breaks, step_more, cleared_of}
use Rattle.edit_update_steps.proofs.clear_run.Goals as goal

pub get_row-c-requires : goal.get_row-c-requires
get_row-c-requires c = room_i c.args.t.now c.args.i c.requires.linked c.requires.placed

pub loop-k-init : goal.loop-k-init
loop-k-init c =
    let e = c.get_row-c.ensures in
    (c.args.i, ap (λ (r : Row). r.next) e, λ w. rw e (running_start c.args.t.now c.args.i c.args.end c.requires.linked w))

pub shape_of-t-then-c-end : goal.shape_of-t-then-c-end
shape_of-t-then-c-end c = (c.loop-k.invariant.2 c.requires.placed).len

pub returns-then-c-end : goal.returns-then-c-end
returns-then-c-end c =
    let h = c.loop-k.invariant.2 c.requires.placed in
    cleared_of c.requires.placed h true (run_done h c.if-c-end.true) c.requires.linked

pub shape_of-t-then-c-eq-LIST_END : goal.shape_of-t-then-c-eq-LIST_END
shape_of-t-then-c-eq-LIST_END c = (c.loop-k.invariant.2 c.requires.placed).len

pub returns-then-c-eq-LIST_END : goal.returns-then-c-eq-LIST_END
returns-then-c-eq-LIST_END c =
    let h = c.loop-k.invariant.2 c.requires.placed in
    cleared_of c.requires.placed h false (step_ends h c.loop-k.c.next c.loop-k.invariant.1 c.if-c-end.false c.if-c-eq-LIST_END.true) c.requires.linked

pub get_row-d-requires : goal.get_row-d-requires
get_row-d-requires c =
    let h = c.loop-k.invariant.2 c.requires.placed in
    step_inside h c.loop-k.c.next c.loop-k.invariant.1 c.if-c-eq-LIST_END.false

pub shape_of-t-then-d-c : goal.shape_of-t-then-d-c
shape_of-t-then-d-c c = (c.loop-k.invariant.2 c.requires.placed).len

pub returns-then-d-c : goal.returns-then-d-c
returns-then-d-c c =
    let h = c.loop-k.invariant.2 c.requires.placed in
    cleared_of c.requires.placed h false (step_breaks h c.loop-k.c.next c.loop-k.invariant.1 c.if-c-end.false c.if-c-eq-LIST_END.false c.get_row-d.result c.get_row-d.ensures c.if-d-c.true) c.requires.linked

pub put_row-requires : goal.put_row-requires
put_row-requires c =
    let h = c.loop-k.invariant.2 c.requires.placed in
    step_inside h c.loop-k.c.next c.loop-k.invariant.1 c.if-c-eq-LIST_END.false

pub loop-k-preserved : goal.loop-k-preserved
loop-k-preserved c =
    let e = c.get_row-d.ensures in
    let more = λ (w : Placed c.args.t.now c.args.i). step_more (c.loop-k.invariant.2 w) c.loop-k.c.next c.loop-k.invariant.1 c.if-c-end.false c.if-c-eq-LIST_END.false c.get_row-d.result e c.if-d-c.false
    c.put_row.new.t c.emptied.result c.emptied.ensures c.put_row.ensures c.put_row.auto.t in
    (c.loop-k.c.next, (more c.requires.placed).1, λ w. (more w).0)

pub shape_of-t : goal.shape_of-t
shape_of-t c = (c.loop-k.invariant.2 c.requires.placed).len

pub returns : goal.returns
returns c =
    let h = c.loop-k.invariant.2 c.requires.placed in
    absurd (omega (arith, h.left, h.len, c.requires.linked.room))
