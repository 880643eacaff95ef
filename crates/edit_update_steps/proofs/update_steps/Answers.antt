use mathlib.Core.Path.{sym, ◌∙◌, subst}
use native.Mathlib.Omega.{arith}
use Rattle.memory_table.proofs.Order.{inside_at}
use Rattle.edit_scratch.proofs.Refused.{refused_number, allowed_number}
use Rattle.edit_update_steps.specs.Walk.{Walked}
use Rattle.edit_update_steps.proofs.Stored.{update_refused, update_either_end, update_frozen, update_broken, update_long, update_done}
use Rattle.edit_update_steps.proofs.update_steps.Goals as goal

pub returns-then-is_err : goal.returns-then-is_err
returns-then-is_err c = update_refused c.args.start c.args.end c.args.text.now c.args.overwrite c.args.len c.args.byte c.args.t.now _ c.args.s.now _ _ c.split_both-steps.ensures (refused_number _ (sym c.is_err.ensures.value ∙ c.if-is_err.true))

pub returns-then-len-end : goal.returns-then-len-end
returns-then-len-end c = update_either_end c.args.start c.args.end c.args.text.now c.args.overwrite c.args.len c.args.byte c.args.t.now _ c.args.s.now _ _ c.split_both-steps.ensures (allowed_number _ (sym c.is_err.ensures.value ∙ c.if-is_err.false)) c.if-len-end.true

pub returns-then-frozen_within : goal.returns-then-frozen_within
returns-then-frozen_within c =
    update_frozen c.args.start c.args.end c.args.text.now c.args.overwrite c.args.len c.args.byte c.args.t.now _ c.args.s.now _ _ c.split_both-steps.ensures (allowed_number _ (sym c.is_err.ensures.value ∙ c.if-is_err.false)) c.if-len-end.false
    (sym c.frozen_within.ensures ∙ c.if-frozen_within.true)

pub returns-in_default : goal.returns-in_default
returns-in_default c =
    let clear = sym c.frozen_within.ensures ∙ c.if-frozen_within.false in
    update_broken c.args.start c.args.end c.args.text.now c.args.overwrite c.args.len c.args.byte c.args.t.now _ c.args.s.now _ _ c.split_both-steps.ensures (allowed_number _ (sym c.is_err.ensures.value ∙ c.if-is_err.false))
    c.if-len-end.false clear _ (subst (Walked c.args.start c.args.end c.split_both-steps.new.t c.update_walk.new.t) c.in_default.is c.update_walk.ensures)

pub returns-then-text-gt-STORE_LEN : goal.returns-then-text-gt-STORE_LEN
returns-then-text-gt-STORE_LEN c =
    let clear = sym c.frozen_within.ensures ∙ c.if-frozen_within.false in
    update_long c.args.start c.args.end c.args.text.now c.args.overwrite c.args.len c.args.byte c.args.t.now _ c.args.s.now _ _ c.split_both-steps.ensures (allowed_number _ (sym c.is_err.ensures.value ∙ c.if-is_err.false))
    c.if-len-end.false clear _ c.in-Some.i (subst (Walked c.args.start c.args.end c.split_both-steps.new.t c.update_walk.new.t) c.in-Some.is c.update_walk.ensures) c.if-text-gt-STORE_LEN.true

pub edit_first-requires : goal.edit_first-requires
edit_first-requires c = let d = subst (Walked c.args.start c.args.end c.split_both-steps.new.t c.update_walk.new.t) c.in-Some.is c.update_walk.ensures in let w = d.ended.1 in record { i_in_bounds = omega (arith, d.linked.room, (inside_at c.update_walk.new.t w.us c.in-Some.i w.bs d.linked w.place).1); text_len_bound = c.if-text-gt-STORE_LEN.false; byte_bound = c.requires.byte_bound; text_in_bounds = omega (arith, c.requires.text_in_bounds c.if-text-gt-STORE_LEN.false, c.split_both-steps.auto.t) }

pub returns : goal.returns
returns c =
    let clear = sym c.frozen_within.ensures ∙ c.if-frozen_within.false in
    let d = subst (Walked c.args.start c.args.end c.split_both-steps.new.t c.update_walk.new.t) c.in-Some.is c.update_walk.ensures in
    rw (allowed_number _ (sym c.is_err.ensures.value ∙ c.if-is_err.false))
    (update_done c.args.start c.args.end c.args.text.now c.args.overwrite c.args.len c.args.byte c.args.t.now _ c.args.s.now _ _ c.split_both-steps.ensures (allowed_number _ (sym c.is_err.ensures.value ∙ c.if-is_err.false))
    c.if-len-end.false clear _ c.in-Some.i d _ _ c.requires.byte_bound c.edit_first.ensures c.edit_first.auto.t)
