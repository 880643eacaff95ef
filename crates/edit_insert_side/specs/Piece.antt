-- A piece more in a run of a row: the run's rows stand behind the others with that of the new text, and the row names them.
use Rattle.std.specs.Prelude.{◌≡◌, Bool, List, ◌++◌, ℕ, ◌≤◌, ◌<◌, length}
use Rattle.memory_layout.specs.Layout.{PIECES_LEN, STORE_LEN, INSERT_PIECES_LEN, INSERT_STORE_LEN}
use Rattle.memory_table.specs.Table.{row_at, Put}
use Rattle.memory_table.specs.Order.{entry_at}
use Rattle.memory_table.specs.Sides.{side, with_side}
use Rattle.memory.specs.Layout.{Place, run_of}
use Rattle.memory.specs.WellFormed.{RunIn}
use Rattle.model.specs.Insert.{push}
use Rattle.edit_scratch.specs.Tables.{Scratch}

-- the lent pieces and store stand at the front of the scratch ones, with room behind for the rows of any run and one more, and for a text
pub record Spare (p s p1 s1 : List ℕ) : Type 0 where
  pub behind : List ℕ
  pub after : List ℕ
  pub pieces : p1 ≡ p ++ behind
  pub store : s1 ≡ s ++ after
  pub lent_pieces : length p ≤ PIECES_LEN
  pub lent_store : length s ≤ STORE_LEN
  pub rows_room : INSERT_PIECES_LEN ≤ length p1
  pub bytes_room : INSERT_STORE_LEN ≤ length s1
  pub rows_narrow : length p1 < 4294967296
  pub narrow : length s1 < 4294967296

-- the run x of p and s, with the text in front or behind, is the run y of p' and s', whose front is p and s
pub record Longer (p s : List ℕ) (front : Bool) (text : List ℕ) (x : Place) (p' s' : List ℕ) (y : Place) : Type 0 where
  pub behind : List ℕ
  pub after : List ℕ
  pub pieces : p' ≡ p ++ behind
  pub store : s' ≡ s ++ after
  pub texts : run_of p' s' y ≡ push front text (run_of p s x)
  pub run_in : RunIn p' s' y

pub record PieceAdded (outro front : Bool) (text p s t t' p' s' : List ℕ) (i : ℕ) : Type 0 where
  pub run : Place
  pub longer : Longer p s front text (side outro (entry_at t i)) p' s' run
  pub put : Put t t' i (with_side outro run (row_at t i))

-- the scratch tables of an insertion
pub record LongScratch (t p s : List ℕ) : Type 0 where
  pub scratch : Scratch t p s
  pub pieces : length p ≡ INSERT_PIECES_LEN
  pub store : length s ≡ INSERT_STORE_LEN
