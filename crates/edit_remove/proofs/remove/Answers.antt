use mathlib.Core.Path.{refl, sym, ◌∙◌}
use mathlib.Core.Logic.{inl}
use native.Mathlib.Omega.{arith}
use Rattle.edit_remove.proofs.RemoveTests.{remove_outside, remove_nothing, remove_reversed, remove_range}
use Rattle.memory.proofs.Desks.{valid_source}
use Rattle.edit_remove.proofs.remove.Goals as goal

pub between_both-requires : goal.between_both-requires
between_both-requires c = valid_source c.requires.well_formed

pub returns-then-start-end : goal.returns-then-start-end
returns-then-start-end c = record { ran = remove_nothing _ _ c.requires.well_formed (sym c.between_both.ensures ∙ c.if-not-between_both.false) c.if-start-end.true; above = c.requires.above }

pub returns-then-end-start : goal.returns-then-end-start
returns-then-end-start c = record { ran = remove_reversed _ _ c.requires.well_formed (sym c.between_both.ensures ∙ c.if-not-between_both.false) c.if-end-start.true; above = c.requires.above }

pub change_range_either-requires : goal.change_range_either-requires
change_range_either-requires c = record { desk = c.requires; a_lt_b = omega (arith, c.if-start-end.false, c.if-end-start.false); empty_at = inl refl }

pub returns-then-not-between_both : goal.returns-then-not-between_both
returns-then-not-between_both c = record { ran = remove_outside _ _ c.requires.well_formed (sym c.between_both.ensures ∙ c.if-not-between_both.true); above = c.requires.above }

pub returns : goal.returns
returns c =
    let ran =
    remove_range _ _ c.requires.well_formed (sym c.between_both.ensures ∙ c.if-not-between_both.false) (omega (arith, c.if-start-end.false, c.if-end-start.false)) c.change_range_either.ensures.0 in
    record { ran = ran; above = c.change_range_either.ensures.1 }
