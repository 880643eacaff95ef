use mathlib.Core.Path.{sym, ap, ◌∙◌, subst}
use native.Mathlib.Omega.{arith}
use Rattle.memory_table.specs.declared.Row.{Row}
use Rattle.memory_table.specs.Order.{entry_of}
use Rattle.memory_table.proofs.Order.{inside_at}
use Rattle.memory_list.specs.declared.Key.TheVariants.{Inside}
use Rattle.memory_list.specs.Find.{meets, FoundIn}
use Rattle.edit_split_at.specs.Cuts.{filled}
use Rattle.edit_split_at.proofs.Says.{none_says, filled_says, split_says}
use Rattle.edit_split_at.proofs.split_at.Goals as goal

pub returns-in_default : goal.returns-in_default
returns-in_default c =
    let t = c.args.t.now in
    none_says c.args.n c.args.q t c.requires.linked (subst (FoundIn (meets Inside c.args.q) t) c.in_default.is c.find.ensures) _ c.in_no_chunk.ensures

pub get_row-c-requires : goal.get_row-c-requires
get_row-c-requires c =
    let t = c.args.t.now in
    let w = subst (FoundIn (meets Inside c.args.q) t) c.in-Some.is c.find.ensures in
    omega (arith, c.requires.linked.room, (inside_at t w.us c.in-Some.i w.bs c.requires.linked w.place).1)

pub returns-then-is_filled : goal.returns-then-is_filled
returns-then-is_filled c =
    let t = c.args.t.now in
    let w = subst (FoundIn (meets Inside c.args.q) t) c.in-Some.is c.find.ensures in
    filled_says c.args.n c.args.q t c.in-Some.i w c.requires.linked (sym (ap (λ (r : Row). filled (entry_of r)) c.get_row-c.ensures) ∙ sym c.is_filled.ensures ∙ c.if-is_filled.true)

pub split_row-requires : goal.split_row-requires
split_row-requires c = let t = c.args.t.now in let w = subst (FoundIn (meets Inside c.args.q) t) c.in-Some.is c.find.ensures in record { linked = c.requires.linked; placed = record { us = w.us; bs = w.bs; place = w.place }; t_in_bounds = (c.requires.room, c.requires.narrow) }

pub returns : goal.returns
returns c =
    let t = c.args.t.now in
    let w = subst (FoundIn (meets Inside c.args.q) t) c.in-Some.is c.find.ensures in
    split_says c.args.n c.args.q t c.in-Some.i w c.requires.linked c.split_row.new.t c.split_row.ensures
    (sym (ap (λ (r : Row). filled (entry_of r)) c.get_row-c.ensures) ∙ sym c.is_filled.ensures ∙ c.if-is_filled.false)
