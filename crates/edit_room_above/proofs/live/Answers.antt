use mathlib.Core.Path.{sym, ap, ◌∙◌, subst}
use native.Mathlib.Omega.{arith}
use Rattle.memory_table.specs.declared.Row.{Row}
use Rattle.memory_table.specs.Order.{entry_of}
use Rattle.memory.specs.WellFormed.{EntryIn}
use Rattle.memory_texts.specs.Own.{own_of}
use Rattle.memory_list.proofs.Gathers.{gather_none, gather_next, gather_more, gather_all}
use Rattle.edit_rebuild.proofs.Lay.{own_in}
use Rattle.edit_scratch.proofs.Counting.{entry_in}
use Rattle.edit_room_above.proofs.Passing.{none_in, live_start, live_more, live_end}
use Rattle.edit_room_above.proofs.live.Goals as goal

pub get_row-z-requires : goal.get_row-z-requires
get_row-z-requires c = omega arith

pub live_row-c-requires : goal.live_row-c-requires
live_row-c-requires c = record { entry_in = rw (c.own_row.ensures, c.get_row-z.ensures) (own_in c.requires.readable); live_in = none_in c.args.p.now c.args.s.now }

pub loop-r-init : goal.loop-r-init
loop-r-init c =
    gather_none (c.into_iter-r-iterator.ensures.into_iter_gives ∙ c.rows-r-items.ensures)
    (live_start c.args.t.now c.args.p.now c.args.s.now _ _ (c.own_row.ensures ∙ ap own_of c.get_row-z.ensures) c.live_row-c.ensures)

pub live_row-c-requires-in-loop-r : goal.live_row-c-requires-in-loop-r
live_row-c-requires-in-loop-r c =
    let at = gather_next c.loop-r.invariant c.in-Some.ensures.steps in
    record {
      entry_in = subst (λ (r : Row). EntryIn c.args.p.now c.args.s.now (entry_of r)) (sym at.row) (entry_in c.requires.readable at.us _ at.bs at.place);
      live_in = at.so_far.inside;
    }

pub loop-r-preserved : goal.loop-r-preserved
loop-r-preserved c =
    let at = gather_next c.loop-r.invariant c.in-Some.ensures.steps in
    gather_more at (live_more _ at.so_far (rw at.row at c.live_row-c-in-loop-r.ensures))

pub returns : goal.returns
returns c = live_end (gather_all c.loop-r.invariant c.in-None.ensures.steps.0) c.requires.readable c.requires.s_value c.requires.sized
