-- What the chunks use of the piece table and the store after a trim: no more below a row and a byte, and from there on nothing twice.
use Rattle.std.specs.Prelude.{List, ℕ, ◌≤◌, ◌<◌}
use Rattle.memory_table.specs.Order.{entries}
use Rattle.model.specs.Text.{sum}
use Rattle.memory.specs.WellFormed.{piece_uses, byte_uses}

pub record ChunksApart (p p' : List ℕ) (top byte : ℕ) (t t' : List ℕ) : Type 0 where
  pub rows_below : (j : ℕ) → j < top → sum (piece_uses j) (entries t') ≤ sum (piece_uses j) (entries t)
  pub rows_above : (j : ℕ) → top ≤ j → sum (piece_uses j) (entries t') ≤ 1
  pub bytes_below : (b : ℕ) → b < byte → sum (byte_uses p' b) (entries t') ≤ sum (byte_uses p b) (entries t)
  pub bytes_above : (b : ℕ) → byte ≤ b → sum (byte_uses p' b) (entries t') ≤ 1
