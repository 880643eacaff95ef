-- A piece more on top of the lent tables: the text goes above all bytes in use, and the row names the longer run, whose rows are copied above all rows in use or end there already.
use Rattle.std.specs.Prelude.{◌≡◌, Bool, List, [], ℕ, ◌+◌, ◌*◌, ◌/◌, ◌≤◌, ◌<◌, length, take}
use Rattle.memory_layout.specs.Layout.{PIECES_LEN, STORE_LEN}
use Rattle.memory_table.specs.Order.{entry_at, count_of}
use Rattle.model.specs.Limits.{piece_count}
use Rattle.memory.specs.Layout.{magic_string_of}
use Rattle.memory.specs.WellFormed.{Readable, HoldsEach, Disjoint, among, run_uses}
use Rattle.memory_used.specs.declared.Used.{Used}
use Rattle.memory_used.specs.Below.{Below}
use Rattle.memory_table.specs.Sides.{side}
use Rattle.edit_insert_side.specs.Piece.{PieceAdded}

-- the piece is added to row i. Its run ends below row', its texts at or before the end of the new one; its rows are those of the run before it and some from the row on,
-- its bytes those of that run and of the text
pub record AddedOnTop (outro front : Bool) (text : List ℕ) (row byte : ℕ) (P S t t' P' S' : List ℕ) (i row' : ℕ) : Type 0 where
  pub added : PieceAdded outro front text (take (row * 2) P) (take byte S) t t' P' S' i
  pub below : Below P' (byte + length text) row' added.run
  pub from : row ≤ row'
  pub to : row' * 2 ≤ length P'
  pub bytes_to : byte + length text ≤ length S'
  pub rows : (j : ℕ) → among added.run j ≤ among (side outro (entry_at t i)) j + among (row, added.run.1) j
  pub uses : (b : ℕ) → run_uses P' b added.run ≡ run_uses (take (row * 2) P) b (side outro (entry_at t i)) + among (byte, length text) b

-- what a change on top keeps: every row stands in the list once, and no row or byte belongs to two
pub record OnTop (t P t' P' : List ℕ) : Type 0 where
  pub each : HoldsEach t → HoldsEach t'
  pub apart : Disjoint t P → Disjoint t' P'
  pub count : count_of t' ≡ count_of t

-- ── room for it ──
pub record TopReady (t P S text : List ℕ) (l : Used) : Type 0 where
  pub readable : Readable t (take (l.row * 2) P) (take l.byte S)
  pub pieces : piece_count (magic_string_of [] t (take (l.row * 2) P) (take l.byte S)) ≤ l.pieces
  pub rows : l.row + l.pieces < length P / 2
  pub bytes : l.byte + length text ≤ length S
  pub lent_pieces : length P ≤ PIECES_LEN
  pub lent_store : length S ≤ STORE_LEN
