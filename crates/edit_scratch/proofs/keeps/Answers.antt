use mathlib.Core.Path.{sym, ap, ◌∙◌, subst}
use native.Mathlib.Omega.{arith}
use Rattle.memory_table.specs.declared.Row.{Row}
use Rattle.memory_table.specs.Order.{entry_of}
use Rattle.memory.specs.WellFormed.{EntryIn}
use Rattle.memory_texts.specs.Own.{own_of}
use Rattle.memory_list.proofs.Gathers.{gather_none, gather_next, gather_more, gather_all}
use Rattle.edit_rebuild.proofs.Lay.{own_in}
use Rattle.edit_scratch.proofs.Counting.{count_start, entry_in, count_more, too_many, few_pieces, many_pieces}
use Rattle.edit_scratch.proofs.keeps.Goals as goal

pub returns-then-z-most_chunks : goal.returns-then-z-most_chunks
returns-then-z-most_chunks c = too_many c.args.t.now c.args.p.now c.args.s.now c.args.most_chunks _ _ (omega (arith, ap (λ (r : Row). r.start) c.get_row-z.ensures, c.if-z-most_chunks.true))

pub count_row-c-requires : goal.count_row-c-requires
count_row-c-requires c = record { entry_in = rw (c.own_row.ensures, c.get_row-z.ensures) (own_in c.requires.readable); pieces_bound = omega arith }

pub loop-r-init : goal.loop-r-init
loop-r-init c =
    gather_none (c.into_iter-r-iterator.ensures.into_iter_gives ∙ c.rows-r-items.ensures)
    (count_start c.args.t.now c.args.p.now c.args.s.now _ _ _ (c.own_row.ensures ∙ ap own_of c.get_row-z.ensures) c.count_row-c.ensures.0 c.count_row-c.ensures.1)

pub count_row-c-requires-in-loop-r-clause-entry_in : goal.count_row-c-requires-in-loop-r-clause-entry_in
count_row-c-requires-in-loop-r-clause-entry_in c =
    let at = gather_next c.loop-r.invariant c.in-Some.ensures.steps in
    subst (λ (r : Row). EntryIn c.args.p.now c.args.s.now (entry_of r)) (sym at.row) (entry_in c.requires.readable at.us _ at.bs at.place)

pub loop-r-preserved : goal.loop-r-preserved
loop-r-preserved c =
    let at = gather_next c.loop-r.invariant c.in-Some.ensures.steps in
    let d = rw at.row at c.count_row-c-in-loop-r.ensures in
    gather_more at (count_more _ at.so_far d.0 d.1)

pub returns-then-c-most_pieces : goal.returns-then-c-most_pieces
returns-then-c-most_pieces c =
    few_pieces (gather_all c.loop-r.invariant c.in-None.ensures.steps.0) (omega (arith, ap (λ (r : Row). r.start) c.get_row-z.ensures, c.if-z-most_chunks.false))
    c.requires.most_chunks_bound.1 c.requires.most_chunks_bound.2 c.if-c-most_pieces.true

pub returns-else-c-most_pieces : goal.returns-else-c-most_pieces
returns-else-c-most_pieces c =
    many_pieces (gather_all c.loop-r.invariant c.in-None.ensures.steps.0) (omega (arith, ap (λ (r : Row). r.start) c.get_row-z.ensures, c.if-z-most_chunks.false))
    c.requires.most_chunks_bound.1 c.requires.most_chunks_bound.2 c.if-c-most_pieces.false
