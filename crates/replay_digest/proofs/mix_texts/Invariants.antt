use mathlib.Core.Path.{◌≡◌}
use Rattle.memory_fragments.specs.Sections.{all_texts}
use Rattle.replay_digest.specs.Digest.{mixed_texts}
use Rattle.replay_digest.proofs.mix_texts.Given as goal

abbrev pub invariant-loop-t : goal.invariant-loop-t
invariant-loop-t l = mixed_texts l.d l.t-iterator ≡ mixed_texts l.h (all_texts l.desk)
