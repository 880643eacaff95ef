use Rattle.trim_chunks.specs.Walk.{WalkAt, step_of}
use Rattle.trim_chunks.proofs.Walk.{walk_none, walk_more, walk_end, walk_stop, walk_ready}
use Rattle.trim_chunk.specs.Row.{RowReady}
use Rattle.memory_table.specs.Order.{entry_of}
use Rattle.memory_table.specs.declared.Row.{Row}
use Prim.Native.Nat.{◌+◌}
use mathlib.Core.Path.{sym, ap, ◌∙◌, subst}
use Rattle.trim_chunks.proofs.clear_blank.Goals as goal

pub loop-init : goal.loop-init
loop-init c = let g = c.get_row-z.ensures in walk_none _ _ _ _ _ _ _ _ c.requires.linked (ap (λ (r : Row). r.start) g) (c.step-cur.ensures ∙ ap (step_of c.args.front) g)

pub get_row-r-requires : goal.get_row-r-requires
get_row-r-requires c = (walk_ready _ _ _ _ _ _ _ _ _ _ c.requires.each c.requires.linked c.loop.invariant c.loop-test.true).1

pub is_blank-requires : goal.is_blank-requires
is_blank-requires c =
    subst (λ (r : Row). RowReady c.args.source.now c.args.p.now c.args.s.now (entry_of r)) (sym c.get_row-r.ensures)
    (walk_ready _ _ _ _ _ _ _ _ _ _ c.requires.each c.requires.linked c.loop.invariant c.loop-test.true).0

pub returns-then-not-is_blank : goal.returns-then-not-is_blank
returns-then-not-is_blank c =
    walk_stop _ _ _ _ _ _ _ _ _ _ c.requires.linked c.loop.invariant c.loop-test.true _ c.get_row-r.ensures (sym c.is_blank.ensures ∙ c.if-not-is_blank.true)

pub cleared-requires : goal.cleared-requires
cleared-requires c =
    (subst (λ (r : Row). RowReady c.args.source.now c.args.p.now c.args.s.now (entry_of r)) (sym c.get_row-r.ensures)
    (walk_ready _ _ _ _ _ _ _ _ _ _ c.requires.each c.requires.linked c.loop.invariant c.loop-test.true).0).span.ordered

pub put_row-requires : goal.put_row-requires
put_row-requires c = (walk_ready _ _ _ _ _ _ _ _ _ _ c.requires.each c.requires.linked c.loop.invariant c.loop-test.true).1

pub loop-preserved : goal.loop-preserved
loop-preserved c =
    subst (WalkAt _ _ _ _ _ _ _ _ (c.loop.counter + 1)) (sym c.step-cur-in-loop.ensures)
    (walk_more _ _ _ _ _ _ _ _ _ _ c.requires.linked c.loop.invariant c.loop-test.true _ _ _ c.get_row-r.ensures (sym c.is_blank.ensures ∙ c.if-not-is_blank.false)
    c.cleared.ensures c.put_row.ensures c.put_row.auto.t)

pub returns : goal.returns
returns c = walk_end _ _ _ _ _ _ _ _ _ _ c.requires.linked c.loop.invariant c.loop-test.false
