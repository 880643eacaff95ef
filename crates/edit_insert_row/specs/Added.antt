-- A row with a piece more in its outro or intro.
use Rattle.std.specs.Prelude.{◌≡◌, Bool, List, ℕ, suc, ◌+◌, ◌^◌, ◌≤◌, ◌<◌, length}
use Rattle.memory_table.specs.Table.{row_at, Put}
use Rattle.memory_table.specs.Order.{entry_at}
use Rattle.memory_table.specs.Sides.{side, with_side}
use Rattle.memory.specs.Layout.{Place}
use Rattle.memory_texts.specs.Over.{over}
use Rattle.edit_room_above.specs.Run.{TopRoom, Lengthened}

-- row i names the run from row `first` on, which has the place y more
pub record RowAdded (outro front : Bool) (y : Place) (row : ℕ) (t p t' p' : List ℕ) (i above : ℕ) : Type 0 where
  pub first : ℕ
  pub longer : Lengthened front y (side outro (entry_at t i)) row p p' first
  pub put : Put t t' i (with_side outro (first, suc (side outro (entry_at t i)).1) (row_at t i))
  pub above_is : above ≡ first + (side outro (entry_at t i)).1 + 1

-- there is room for the run x with a row more, and for the text
pub record TextRoom (x : Place) (text p s : List ℕ) (row byte : ℕ) : Type 0 where
  pub rows : TopRoom x p row
  pub bytes_in : byte + length text ≤ length s
  pub narrow : length s < 2 ^ 32

-- the text is put, and row i names it
pub record TextAdded (outro front : Bool) (text : List ℕ) (row byte : ℕ) (t p s t' p' s' : List ℕ) (i above : ℕ) : Type 0 where
  pub store_is : s' ≡ over s byte text
  pub added : RowAdded outro front (byte, length text) row t p t' p' i above
