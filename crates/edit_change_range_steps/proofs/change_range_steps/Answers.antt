use mathlib.Core.Path.{sym, ◌∙◌}
use Rattle.edit_scratch.proofs.Refused.{refused_number, allowed_number}
use Rattle.edit_change_range_steps.proofs.Range.{range_refused, range_tried}
use Rattle.edit_change_range_steps.proofs.change_range_steps.Goals as goal

pub returns-then-is_err : goal.returns-then-is_err
returns-then-is_err c =
    range_refused c.args.change c.args.a c.args.b _ _ _ _ c.split_both-cuts.ensures (refused_number _ (sym c.is_err.ensures.value ∙ c.if-is_err.true))

pub returns : goal.returns
returns c =
    range_tried c.args.change c.args.a c.args.b _ _ _ _ _ _ c.requires.a_lt_b c.requires.empty_at c.split_both-cuts.ensures
    (allowed_number _ (sym c.is_err.ensures.value ∙ c.if-is_err.false)) c.change_unless_frozen.ensures
