-- Laws of what `RunClosed` in specs/ defines.
use Prim.Native.Nat.{ℕ, zero, suc}
use native.Mathlib.Omega.{arith}
use mathlib.Core.Path.{◌≡◌, refl, ap, sym, ◌∙◌}
use mathlib.Core.Bool.{Bool, true, false, not, cond}
use Rattle.model.specs.MagicString.{MagicString, Result, ok, err}
use Rattle.model.specs.Limits.{Limits, within}
use Rattle.model.specs.Call.{Edit, steps, refused_before, judged, run, listed}
use Rattle.model.specs.WellFormed.{Formed}
use Rattle.model_closed_forms.specs.Plan.{apply, unless_refused, closed}
use Rattle.model_closed_forms.proofs.Steps.{steps_are_closed}
use Rattle.model_closed_forms.specs.Accepted.{plan_of, Accepted}
use Rattle.model_closed_forms.proofs.Accepted.{accepted_closed, closed_accepted}
use Rattle.model_closed_forms.specs.RunClosed.{RunAccepted}

run_parts : (k : Limits) (e : Edit) (m : MagicString) → run k e m ≡ unless_refused (refused_before m e) m (judged k m (steps e m))
unfolding run
run_parts k e m = go (refused_before m e) (judged k m (steps e m))
  where
    go : (j : ℕ) (r : Result) → elim j [ zero ↦ r | suc n ↦ err (suc n) m ] ≡ unless_refused j m r
    go zero r = refl
    go (suc n) r = refl

-- every number in its order: 15, 1, 3; then 13 judged on what the closed form leaves; else the closed form
pub run_closed : (k : Limits) (e : Edit) (m : MagicString) → listed e ≡ true → Formed m → run k e m ≡ unless_refused (refused_before m e) m (judged k m (closed e m))
run_closed k e m l f = run_parts k e m ∙ ap (λ r. unless_refused (refused_before m e) m (judged k m r)) (steps_are_closed e m l f)

pub accepted_run : (k : Limits) (e : Edit) (m : MagicString) → listed e ≡ true → Formed m → RunAccepted k e m → run k e m ≡ ok (apply (plan_of e m) m)
unfolding judged
accepted_run k e m l f g = run_parts k e m ∙ rw (g.before, steps_are_closed e m l f, accepted_closed e m g.accepted, g.space)

pub run_accepted : (k : Limits) (e : Edit) (m : MagicString) → listed e ≡ true → Formed m → (run k e m).number ≡ 0 → RunAccepted k e m
unfolding judged
run_accepted k e m l f h = before (refused_before m e) refl (rw (run_parts k e m) at h)
  where
    kept : (closed e m).number ≡ 0 → refused_before m e ≡ 0 → within k (closed e m).desk ≡ true → RunAccepted k e m
    kept z b w =
        let a : Accepted e m = closed_accepted e m z in
        record { before = b; accepted = a; space = sym (ap (λ r. within k r.desk) (accepted_closed e m a)) ∙ w }

    space : refused_before m e ≡ 0 → (w : Bool) → within k (closed e m).desk ≡ w → (cond (not w) (err 13 m) (closed e m)).number ≡ 0 → RunAccepted k e m
    space b true w z = kept z b w
    space b false w z = absurd (omega arith)

    before : (j : ℕ) → refused_before m e ≡ j → (unless_refused j m (judged k m (steps e m))).number ≡ 0 → RunAccepted k e m
    before zero b z = space b (within k (closed e m).desk) refl (rw (steps_are_closed e m l f) at z)
    before (suc j) b z = absurd (omega arith)
