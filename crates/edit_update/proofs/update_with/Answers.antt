use mathlib.Core.Path.{sym, ◌∙◌}
use Rattle.memory.proofs.Desks.{valid_source}
use Rattle.edit_scratch.proofs.Refused.{refused_number, allowed_number}
use Rattle.edit_update.proofs.update_with.Goals as goal

pub tested-status-requires : goal.tested-status-requires
tested-status-requires c = valid_source c.requires.well_formed

pub returns-then-is_err : goal.returns-then-is_err
returns-then-is_err c =
    let refused = refused_number _ (sym c.is_err.ensures.value ∙ c.if-is_err.true) in
    record { ran = c.tested-status.ensures.refused refused c.args.overwrite _ _ _ c.requires.well_formed; above = c.requires.above }

pub update_either-requires : goal.update_either-requires
update_either-requires c =
    let past = allowed_number _ (sym c.is_err.ensures.value ∙ c.if-is_err.false) in
    record { desk = c.requires; start_lt_end = c.tested-status.ensures.ascends past; overwrite_value = c.tested-status.ensures.asked past c.args.overwrite _ _ _ c.requires.well_formed }
