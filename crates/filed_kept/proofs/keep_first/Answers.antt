-- `filed_kept::keep_first` meets its contract.
use mathlib.Core.Path.{refl}
use native.Mathlib.Omega.{arith}
use Rattle.filed_kept.proofs.keep_first.Goals as goal

pub returns-then-count-eq0 : goal.returns-then-count-eq0
returns-then-count-eq0 c = record { first = λ _. c.keep.ensures; later = λ n. absurd (n (omega (arith, c.if-count-eq0.true))) }

pub returns-else-count-eq0 : goal.returns-else-count-eq0
returns-else-count-eq0 c = record { first = λ z. absurd (omega (arith, z, c.if-count-eq0.false)); later = λ _. record { words = refl; bytes = refl } }
