use mathlib.Core.Path.{sym, ◌∙◌}
use native.Mathlib.Omega.{arith}
use Rattle.edit_reset.proofs.Tests.{resets_empty, within_outside, within_nothing, within_reversed, within_past, within_range}
use Rattle.memory.proofs.Desks.{valid_source}
use Rattle.edit_reset.proofs.change_within.Goals as goal

pub between_both-requires : goal.between_both-requires
between_both-requires c = valid_source c.requires.desk.well_formed

pub returns-then-start-end : goal.returns-then-start-end
returns-then-start-end c = record { ran = within_nothing c.args.change c.requires.resets _ _ c.requires.desk.well_formed (sym c.between_both.ensures ∙ c.if-not-between_both.false) c.if-start-end.true; above = c.requires.desk.above }

pub returns-then-end-start : goal.returns-then-end-start
returns-then-end-start c = record { ran = within_reversed c.args.change c.requires.resets _ _ c.requires.desk.well_formed (sym c.between_both.ensures ∙ c.if-not-between_both.false) c.if-end-start.true; above = c.requires.desk.above }

pub returns-then-source-end : goal.returns-then-source-end
returns-then-source-end c =
    let placed = sym c.between_both.ensures ∙ c.if-not-between_both.false in
    let ran = within_past c.args.change c.requires.resets _ _ c.requires.desk.well_formed placed (omega (arith, c.if-start-end.false, c.if-end-start.false)) c.if-source-end.true in
    record { ran = ran; above = c.requires.desk.above }

pub change_range_either-requires : goal.change_range_either-requires
change_range_either-requires c = record { desk = c.requires.desk; a_lt_b = omega (arith, c.if-start-end.false, c.if-end-start.false); empty_at = resets_empty c.args.change c.requires.resets }

pub returns-then-not-between_both : goal.returns-then-not-between_both
returns-then-not-between_both c = record { ran = within_outside c.args.change c.requires.resets _ _ c.requires.desk.well_formed (sym c.between_both.ensures ∙ c.if-not-between_both.true); above = c.requires.desk.above }

pub returns : goal.returns
returns c =
    let placed = sym c.between_both.ensures ∙ c.if-not-between_both.false in
    let ran =
    within_range c.args.change c.requires.resets _ _ c.requires.desk.well_formed placed (omega (arith, c.if-start-end.false, c.if-end-start.false)) c.if-source-end.false c.change_range_either.ensures.0 in
    record { ran = ran; above = c.change_range_either.ensures.1 }
