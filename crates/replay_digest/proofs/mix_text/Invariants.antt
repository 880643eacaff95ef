use Rattle.replay_digest.specs.Digest.{mixed_all}
use lib.ListN.{drop}
use mathlib.Core.Path.{◌≡◌}
use Rattle.replay_digest.proofs.mix_text.Given as goal

abbrev pub invariant-loop-b : goal.invariant-loop-b
invariant-loop-b l = mixed_all l.d (drop l.b-index l.s) ≡ mixed_all l.h l.s
