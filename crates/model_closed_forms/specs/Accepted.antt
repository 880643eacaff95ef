-- When a closed form is accepted, and what it leaves then.
use Rattle.std.specs.Prelude.{◌≡◌, true, false, length}
use Rattle.model.specs.MagicString.{MagicString}
use Rattle.model.specs.Call.{Edit}
use Rattle.model_closed_forms.specs.Plan.{Plan, plan, refused_first, cut_all, cuttable, cuts, in_order, ends_past, frozen_in}

abbrev pub plan_of : Edit → MagicString → Plan
plan_of e m = plan (length m.source) e

-- every test of the closed form is passed
pub record Accepted (e : Edit) (m : MagicString) : Type 0 where
  -- no 4, 5, 8, nor 10 of reset and relocate
  pub arguments : refused_first (length m.source) e ≡ 0
  -- no 6
  pub cuts_made : cuttable (cuts (plan_of e m)) m.chunks ≡ true
  -- no 10 of update
  pub inside : ends_past (length m.source) (plan_of e m) ≡ false
  -- no 20
  pub unfrozen : frozen_in (plan_of e m) (cut_all (cuts (plan_of e m)) m.chunks) ≡ false
  -- no 7 and no 9
  pub ordered : in_order (plan_of e m) (cut_all (cuts (plan_of e m)) m.chunks) ≡ true
