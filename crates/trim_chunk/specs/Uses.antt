-- What a row uses of the piece table and of the store: nothing above the places that it lies below; and after a trim no more than before, but for what the trim wrote.
use Rattle.std.specs.Prelude.{List, ℕ, ◌≤◌, ◌<◌}
use Rattle.memory_table.specs.Order.{Entry}
use Rattle.memory.specs.Layout.{Place}
use Rattle.memory.specs.WellFormed.{among, piece_uses, run_uses, byte_uses}

-- ---- runs

-- the run n of p' uses no row below top and no byte that r of p did not
pub record NoMore (p p' : List ℕ) (top : ℕ) (n r : Place) : Type 0 where
  pub rows : (j : ℕ) → j < top → among n j ≤ among r j
  pub bytes : (b : ℕ) → run_uses p' b n ≤ run_uses p b r

-- ---- rows

-- no more below a row and a byte, and once at most from there on
pub record RowApart (p p' : List ℕ) (top byte : ℕ) (e e' : Entry) : Type 0 where
  pub rows_below : (j : ℕ) → j < top → piece_uses j e' ≤ piece_uses j e
  pub rows_above : (j : ℕ) → top ≤ j → piece_uses j e' ≤ 1
  pub bytes_below : (b : ℕ) → b < byte → byte_uses p' b e' ≤ byte_uses p b e
  pub bytes_above : (b : ℕ) → byte ≤ b → byte_uses p' b e' ≤ 1
