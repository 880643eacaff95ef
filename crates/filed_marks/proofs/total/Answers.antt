-- `filed_marks::total` meets its contract.
use mathlib.Core.Path.{refl}
use native.Mathlib.Omega.{arith}
use Rattle.filed_taken.proofs.Says.{said}
use Rattle.filed_marks.proofs.OnRecord.{on_none, on_taken}
use Rattle.filed_marks.proofs.Sums.{total_is}
use Rattle.filed_marks.proofs.total.Goals as goal

pub returns-in_default : goal.returns-in_default
returns-in_default c = on_none c.in_default.ensures (said c.from.ensures) tt

pub sum-requires : goal.sum-requires
sum-requires c = let h = c.in-Some.ensures.holds in record { bytes_len = omega (arith, h.bytes); count_bound = omega (arith, h.few) }

pub returns : goal.returns
returns c = on_taken c.in-Some.ensures (λ h l q. (refl, total_is h l q c.sum.ensures (omega arith)))
