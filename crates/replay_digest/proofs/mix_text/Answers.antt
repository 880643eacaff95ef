use Rattle.replay_digest.proofs.Walks.{mixed_step, mixed_done}
use Rattle.replay_digest.specs.Digest.{mixed}
use Prim.Native.Nat.{ℕ}
use mathlib.Core.Path.{ap, ◌∙◌}
use Rattle.replay_digest.proofs.mix_text.Goals as goal

pub loop-b-preserved : goal.loop-b-preserved
loop-b-preserved c = mixed_step _ _ _ _ c.loop-b-test.true c.loop-b.invariant (c.mix-d.ensures ∙ ap (mixed c.loop-b.d) c.from.ensures)

pub returns : goal.returns
returns c = c.mix.ensures ∙ ap (λ (k : ℕ). mixed k 256) (mixed_done _ _ _ _ c.loop-b-test.false c.loop-b.invariant)
