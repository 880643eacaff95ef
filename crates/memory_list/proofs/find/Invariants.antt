use mathlib.Core.Path.{◌≡◌}
use mathlib.Core.Bool.{false}
use Rattle.memory_table.specs.Order.{entry_at, order}
use Rattle.memory_list.specs.Find.{meets}
use Rattle.memory_list.proofs.Walks.{Passed}
use Rattle.memory_list.proofs.find.Given as goal

abbrev pub invariant-loop-i : goal.invariant-loop-i
invariant-loop-i l = Passed (λ x. meets l.key l.p (entry_at l.t x) ≡ false) l.t (order l.t) l.i-iterator
