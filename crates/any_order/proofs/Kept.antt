-- What the laws on plans ask of a formed desk, and that an accepted edit leaves one.
use Prim.Native.Nat.{◌<◌}
use mathlib.Core.Path.{◌≡◌, ap, ◌∙◌, subst}
use mathlib.Core.Bool.{true}
use lib.ListN.{length}
use Rattle.utf8.specs.Chars.{All}
use Rattle.model.specs.MagicString.{MagicString}
use Rattle.model.specs.Limits.{Limits}
use Rattle.model.specs.Call.{Edit, listed}
use Rattle.model.specs.WellFormed.{Formed}
use Rattle.model_closed_forms.specs.Plan.{apply}
use Rattle.model_closed_forms.specs.Spans.{Proper}
use Rattle.model_closed_forms.proofs.Spans.{Once, formed_cover}
use Rattle.model_closed_forms.proofs.SplitAt.{cover_once}
use Rattle.model_closed_forms.proofs.Steps.{cover_proper, steps_are_closed}
use Rattle.model_closed_forms.specs.Accepted.{plan_of}
use Rattle.model_closed_forms.proofs.Accepted.{accepted_closed}
use Rattle.model_closed_forms.specs.RunClosed.{RunAccepted}
use Rattle.model_preservation.proofs.Calls.{steps_keep}

pub formed_proper : {m : MagicString} → Formed m → 0 < length m.source → All Proper m.chunks
formed_proper f h = cover_proper (formed_cover f) h

pub formed_once : {m : MagicString} → Formed m → Once m.chunks
formed_once f = cover_once (formed_cover f)

pub formed_run : (k : Limits) (m : MagicString) (e : Edit) → Formed m → listed e ≡ true → RunAccepted k e m → Formed (apply (plan_of e m) m)
formed_run k m e f l g = subst Formed (ap (λ r. r.desk) (steps_are_closed e m l f ∙ accepted_closed e m g.accepted)) (steps_keep e m f g.before)
