-- The invariant: the texts of the first k chunks are UTF-8.
use Prim.Native.Nat.{ℕ, ◌+◌, ◌<◌}
use Rattle.memory_table.specs.Order.{entry_at}
use Rattle.model.specs.WellFormed.{ValidTexts}
use Rattle.memory.specs.Layout.{texts_of}
use Rattle.check_texts_valid.proofs.chunks_valid.Given as goal

abbrev pub invariant-loop-k : goal.invariant-loop-k
invariant-loop-k l = (i : ℕ) → i < l.k → ValidTexts (texts_of l.pieces l.store (entry_at l.t (i + 1)))
