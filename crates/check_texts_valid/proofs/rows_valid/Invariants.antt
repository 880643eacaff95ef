-- The invariant: the texts of the first i rows are UTF-8.
use Prim.Native.Nat.{ℕ, ◌+◌, ◌<◌}
use Rattle.model.specs.WellFormed.{Valid}
use Rattle.memory.specs.Layout.{bytes_at, piece_at}
use Rattle.check_texts_valid.proofs.rows_valid.Given as goal

abbrev pub invariant-loop-i : goal.invariant-loop-i
invariant-loop-i l = (k : ℕ) → k < l.i → Valid (bytes_at l.store (piece_at l.pieces (l.at + k)))
