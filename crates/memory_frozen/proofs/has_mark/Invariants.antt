use mathlib.Core.Path.{◌≡◌}
use Prim.Native.Nat.{ℕ, ◌<◌}
use Rattle.memory_table.specs.Table.{row_at}
use Rattle.memory_frozen.proofs.has_mark.Given as goal

abbrev pub invariant-loop-k : goal.invariant-loop-k
invariant-loop-k l = (i : ℕ) → 0 < i → i < l.k → (row_at l.t i).frozen ≡ 0
