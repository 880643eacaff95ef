use mathlib.Core.Path.{sym, ◌∙◌}
use Rattle.memory_layout.specs.Refusals.{number_of}
use Rattle.edit_scratch.proofs.Refused.{refused_number, allowed_number}
use Rattle.edit_relocate_steps.proofs.Moving.{rows_refused, rows_spanned, rows_moved}
use Rattle.edit_relocate_steps.proofs.relocate_steps.Goals as goal

pub returns-then-is_err : goal.returns-then-is_err
returns-then-is_err c = rows_refused c.args.a c.args.b c.args.to c.args.t.now c.split_three-split.new.t _ _ c.split_three-split.ensures (refused_number _ (sym c.is_err.ensures.value ∙ c.if-is_err.true))

pub move_range-status-requires : goal.move_range-status-requires
move_range-status-requires c =
    record {
      spanned = rows_spanned c.args.a c.args.b c.args.to c.args.t.now c.split_three-split.new.t _ _ c.split_three-split.ensures
          (allowed_number _ (sym c.is_err.ensures.value ∙ c.if-is_err.false)) c.requires.spanned;
      movable = c.requires.movable;
    }

pub returns : goal.returns
returns c =
    rows_moved c.args.a c.args.b c.args.to c.args.t.now c.split_three-split.new.t _ _ c.split_three-split.ensures
    (allowed_number _ (sym c.is_err.ensures.value ∙ c.if-is_err.false)) c.move_range-status.new.t (number_of c.move_range-status.result) c.move_range-status.ensures
