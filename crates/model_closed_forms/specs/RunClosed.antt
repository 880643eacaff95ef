-- `run` of an edit of L: accepted exactly if it passes every test of the whole order, and what it leaves then.
use Rattle.std.specs.Prelude.{◌≡◌, true}
use Rattle.model.specs.MagicString.{MagicString}
use Rattle.model.specs.Limits.{Limits, within}
use Rattle.model.specs.Call.{Edit, refused_before}
use Rattle.model_closed_forms.specs.Plan.{apply}
use Rattle.model_closed_forms.specs.Accepted.{plan_of, Accepted}

-- no number of the whole order is given: 15, 1, 3, the edit's own, 13
pub record RunAccepted (k : Limits) (e : Edit) (m : MagicString) : Type 0 where
  pub before : refused_before m e ≡ 0
  pub accepted : Accepted e m
  pub space : within k (apply (plan_of e m) m) ≡ true
