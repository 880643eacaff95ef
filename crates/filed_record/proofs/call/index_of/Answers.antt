-- `filed_record::call::index_of` meets its contract.
use mathlib.Core.Path.{refl}
use native.Mathlib.Omega.{arith}
use Rattle.model_filed.proofs.Filing.{found, zero_not_found, past_not_found}
use Rattle.filed_record.proofs.call.index_of.Goals as goal

pub returns-then-k-eq0 : goal.returns-then-k-eq0
returns-then-k-eq0 c = (λ l e. zero_not_found _ l c.if-k-eq0.true, refl)

pub returns-then-k-count : goal.returns-then-k-count
returns-then-k-count c = (λ l e. past_not_found _ l (omega (arith, c.if-k-count.true)), refl)

pub returns : goal.returns
returns c = (λ l e. found _ l (omega (arith, c.if-k-eq0.false)) (omega (arith, c.if-k-count.false)), omega (arith, c.if-k-eq0.false), omega (arith, c.if-k-eq0.false, c.if-k-count.false))
