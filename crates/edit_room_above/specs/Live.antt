-- What one pass over a desk finds: its pieces, and a row and a byte above all that it uses.
use Rattle.std.specs.Prelude.{◌≡◌, List, [], true, ℕ, ◌+◌, ◌*◌, ◌-◌, ◌/◌, ◌≤◌, ◌<◌, max, min, length}
use Rattle.memory_layout.specs.Layout.{ROW, PIECE_ROOM, PIECES_PAST}
use Rattle.memory_table.specs.Order.{Entry}
use Rattle.model.specs.Limits.{within, chunk_pieces}
use Rattle.memory.specs.Layout.{Place, chunk_of, magic_string_of}
use Rattle.memory.specs.WellFormed.{limits_of, Sized, Readable}
use Rattle.memory_used.specs.Below.{Below, EntryBelow}
use Rattle.memory_used.specs.declared.Used.{Used}

-- a count up to one past the limit, and places inside the tables
pub record LiveIn (p s : List ℕ) (c : Used) : Type 0 where
  pub pieces : c.pieces ≤ PIECES_PAST
  pub row : c.row * 2 ≤ length p
  pub byte : c.byte ≤ length s

-- a row above a run too
pub record TopRow (at n row row' : ℕ) : Type 0 where
  pub none : n ≡ 0 → row' ≡ row
  pub some : (n ≡ 0 → ⊥) → row' ≡ max row (at + n)

pub record RunLive (p s : List ℕ) (x : Place) (c d : Used) : Type 0 where
  pub pieces : d.pieces ≡ min (c.pieces + x.1) PIECES_PAST
  pub below : Below p d.byte d.row x
  pub row_grows : c.row ≤ d.row
  pub byte_grows : c.byte ≤ d.byte
  pub inside : LiveIn p s d

pub record EntryLive (p s : List ℕ) (e : Entry) (c d : Used) : Type 0 where
  pub pieces : d.pieces ≡ min (c.pieces + chunk_pieces (chunk_of p s e)) PIECES_PAST
  pub below : EntryBelow p d.byte d.row e
  pub row_grows : c.row ≤ d.row
  pub byte_grows : c.byte ≤ d.byte
  pub inside : LiveIn p s d

-- tables that one pass can count: a desk that can be read, inside the limits of its tables
pub record Usable (t p s : List ℕ) : Type 0 where
  pub readable : Readable t p s
  pub within_is : within (limits_of t p s) (magic_string_of [] t p s) ≡ true
  pub sized : Sized t p s

-- a count inside the limit and places inside the lent tables, cp words of pieces and cs bytes
pub record Small (cp cs : ℕ) (l : Used) : Type 0 where
  pub pieces : l.pieces ≤ cp / PIECE_ROOM
  pub row : l.row * 2 ≤ cp
  pub byte : l.byte ≤ cs

-- n chunks and a piece more keep the limits; and there is room on top for any run with a piece more, and for len bytes (so that these keep the limit too: `bytes_below`)
pub record Room (ct cp cs : ℕ) (l : Used) (n len : ℕ) : Type 0 where
  pub chunks : n ≤ ct / ROW - 1
  pub pieces : l.pieces < cp / PIECE_ROOM
  pub rows : l.row + l.pieces < cp / 2
  pub places : l.byte + len ≤ cs
