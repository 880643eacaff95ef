use mathlib.Core.Path.{sym, ◌∙◌}
use mathlib.Core.List.{[], ◌∷◌}
use native.Mathlib.Omega.{arith}
use Rattle.edit_scratch.proofs.Refused.{refused_number, allowed_number}
use Rattle.edit_split_at.proofs.Cuts.{cuts_stop, cuts_more, cut_roomy}
use Rattle.edit_split_at.proofs.split_both.Goals as goal

pub split_one-first-requires : goal.split_one-first-requires
split_one-first-requires c = record { linked = c.requires.linked; room = omega (arith, c.requires.room); narrow = c.requires.narrow }

pub returns-then-is_err : goal.returns-then-is_err
returns-then-is_err c = cuts_stop c.args.a (c.args.b ∷ []) _ _ _ _ c.split_one-first.ensures (refused_number _ (sym c.is_err.ensures.value ∙ c.if-is_err.true))

pub split_one-second-requires : goal.split_one-second-requires
split_one-second-requires c = cut_roomy {n = 1} c.requires c.split_one-first.ensures c.split_one-first.auto.t

pub overflow_add-result : goal.overflow_add-result
overflow_add-result c = omega (arith, c.split_one-first.ensures.few, c.split_one-second.ensures.few)

pub returns : goal.returns
returns c = cuts_more c.args.a (c.args.b ∷ []) _ _ _ _ _ _ _ c.split_one-first.ensures (allowed_number _ (sym c.is_err.ensures.value ∙ c.if-is_err.false)) c.split_one-second.ensures
