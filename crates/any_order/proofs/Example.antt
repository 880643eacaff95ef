-- Laws of what `Example` in specs/ defines.
use mathlib.Core.Path.{◌≡◌, refl, ◌∙◌, subst}
use mathlib.Core.Bool.{true}
use mathlib.Core.List.{List, flatten}
use Rattle.utf8.specs.Rfc3629.{scalar, sequence, decode_at, whole_from, utf8, between}
use Rattle.model.specs.Chunk.{contains}
use Rattle.model.specs.MagicString.{new, split_at, by_edge_mut, to_string}
use Rattle.model.specs.Frozen.{has_frozen, any_frozen}
use Rattle.model.specs.Update.{update_chunks}
use Rattle.model.specs.Update as update_rs
use Rattle.model.specs.Movement.{change_range}
use Rattle.model.specs.Movement as movement_rs
use Rattle.model.specs.Reset as reset_rs
use Rattle.model.specs.Limits.{full, within}
use Rattle.model.specs.Call.{Edit, refused_before, run, judged, after}
use Rattle.model.specs.WellFormed.{WellFormed}
use Rattle.model_preservation.proofs.Calls.{new_formed, after_keeps}
use Rattle.any_order.specs.Claim.{Order, Premises, Conclusion}
use Rattle.model_join.specs.Tests.{edits_apart, each_alone, has_space, any_order_holds}
use Rattle.any_order.proofs.Decide.{decide_premises}
use Rattle.any_order.proofs.Theorem.{any_order}
use Rattle.any_order.specs.Example.{source, prepared, desk, edits, text}

-- ── a list of edits on it ──
computed : (after full prepared (new source) ≡ desk) × (any_order_holds full desk edits ≡ true) × (to_string (after full edits desk) ≡ text)
unfolding flatten scalar sequence decode_at whole_from utf8 between contains split_at by_edge_mut to_string update_chunks
    update_rs.update_with has_frozen any_frozen change_range movement_rs.remove movement_rs.relocate reset_rs.reset within judged refused_before run edits_apart each_alone
    has_space any_order_holds
computed = (refl, refl, refl)

-- ── the rule on it ──
fresh : WellFormed full (new source)
unfolding scalar sequence whole_from utf8 within
fresh = record { formed = new_formed source refl; limits = refl }

pub prepared_desk : after full prepared (new source) ≡ desk
prepared_desk = computed.0

pub worked : Premises full desk edits
worked = (decide_premises full desk edits (subst (WellFormed full) prepared_desk (after_keeps full prepared (new source) fresh))).0 computed.1

pub every_order : (L : List Edit) → Order edits L → Conclusion full desk edits L
every_order L o = any_order full desk edits worked L o

pub every_text : (L : List Edit) → Order edits L → to_string (after full L desk) ≡ text
every_text L o = (every_order L o).text ∙ computed.2
