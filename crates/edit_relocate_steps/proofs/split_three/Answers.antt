use mathlib.Core.Path.{sym, ◌∙◌}
use mathlib.Core.List.{[], ◌∷◌}
use native.Mathlib.Omega.{arith}
use Rattle.edit_scratch.proofs.Refused.{refused_number, allowed_number}
use Rattle.edit_split_at.proofs.Cuts.{cuts_stop, cuts_more, cut_roomy}
use Rattle.edit_relocate_steps.proofs.split_three.Goals as goal

pub split_one-first-requires : goal.split_one-first-requires
split_one-first-requires c = record { linked = c.requires.linked; room = omega (arith, c.requires.room); narrow = c.requires.narrow }

pub returns-then-is_err : goal.returns-then-is_err
returns-then-is_err c = cuts_stop c.args.a (c.args.b ∷ c.args.to ∷ []) _ _ _ _ c.split_one-first.ensures (refused_number _ (sym c.is_err.ensures.value ∙ c.if-is_err.true))

pub split_both-others-requires : goal.split_both-others-requires
split_both-others-requires c = cut_roomy {n = 2} c.requires c.split_one-first.ensures c.split_one-first.auto.t

pub overflow_add-result : goal.overflow_add-result
overflow_add-result c = omega (arith, c.split_one-first.ensures.few, c.split_both-others.ensures.few)

pub returns : goal.returns
returns c =
    cuts_more c.args.a (c.args.b ∷ c.args.to ∷ []) _ _ _ _ _ _ _ c.split_one-first.ensures
    (allowed_number _ (sym c.is_err.ensures.value ∙ c.if-is_err.false)) c.split_both-others.ensures
