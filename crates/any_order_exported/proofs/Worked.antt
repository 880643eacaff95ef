-- The worked list on memory, in two orders.
use mathlib.Core.Path.{◌≡◌, refl, sym, ap, ◌∙◌, subst}
use mathlib.Core.List.{List, reverse}
use Rattle.model.specs.MagicString.{MagicString, to_string}
use Rattle.model.specs.Limits.{Limits, full}
use Rattle.model.specs.Call.{Edit, after}
use Rattle.memory.proofs.Desks.{limits_full}
use Rattle.any_order.specs.Claim.{Order, same, Premises}
use Rattle.any_order.proofs.Theorem.{order_reverse}
use Rattle.any_order.specs.Example.{source, prepared, desk, edits, text}
use Rattle.any_order.proofs.Example.{prepared_desk, worked, every_text}
use Rattle.any_order_exported.specs.Runs.{Holds, desk_of, limits}
use Rattle.any_order_exported.specs.Claim.{FinalText}
use Rattle.any_order_exported.specs.Worked.{Sitting, WorkedAlike}
use Rattle.any_order_exported.proofs.Follow.{Follows, follows, final_text}
use Rattle.any_order_exported.proofs.Theorem.{any_order_exported}

module _ {order : List Edit} (x : Sitting order) where
  fresh_holds : Holds source x.fresh
  fresh_holds = record { full = x.sizes; well_formed = x.opening.well_formed refl }

  prepares : Follows source prepared x.fresh x.answers_before x.start
  prepares = follows x.before fresh_holds

  start_limits : limits x.start ≡ full
  start_limits = limits_full prepares.holds.full

  -- what the opening and the first edits leave is the worked desk
  start_desk : desk_of source x.start ≡ desk
  start_desk =
      prepares.desk ∙ ap (λ (k : Limits). after k prepared (desk_of source x.fresh)) (limits_full fresh_holds.full)
      ∙ ap (after full prepared) (x.opening.desk_is refl) ∙ prepared_desk

  start_premises : Premises (limits x.start) (desk_of source x.start) edits
  start_premises = subst (λ (k : Limits). Premises k (desk_of source x.start) edits) (sym start_limits) (subst (λ (m : MagicString). Premises full m edits) (sym start_desk) worked)

  left_text : Order edits order → to_string (desk_of source x.left) ≡ text
  left_text o =
      let f = follows x.filed prepares.holds in
      ap to_string (f.desk ∙ ap (λ (k : Limits). after k order (desk_of source x.start)) start_limits ∙ ap (after full order) start_desk) ∙ every_text order o

  left_final : Order edits order → FinalText source x.left text
  left_final o = subst (FinalText source x.left) (left_text o) (final_text source x.left (follows x.filed prepares.holds).holds)

pub worked_exported : (x : Sitting edits) (y : Sitting (reverse edits)) → WorkedAlike x y
worked_exported x y =
    record {
      alike =
          any_order_exported source x.start y.start (prepares x).holds (prepares y).holds (start_desk x ∙ sym (start_desk y)) edits edits (reverse edits) (start_premises x)
          same (order_reverse edits) x.answers y.answers x.left y.left x.filed y.filed;
      final = left_final x same;
      final' = left_final y (order_reverse edits);
    }
