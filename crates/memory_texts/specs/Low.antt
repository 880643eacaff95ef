-- Tables that only grow: rows below a row and bytes below a byte stay, and what lies there reads as before.
use Rattle.std.specs.Prelude.{◌≡◌, List, ℕ, ◌+◌, ◌≤◌, ◌<◌, length, take}
use Rattle.utf8.specs.Chars.{All}
use Rattle.memory_table.specs.Order.{Entry, entry_at, entries, Linked}
use Rattle.memory_layout.specs.Layout.{NONE}
use Rattle.memory.specs.Layout.{Place, piece_at}
use Rattle.memory_used.specs.Below.{Below}

-- the rows below top stay
pub record RowsKept (top : ℕ) (p p' : List ℕ) : Type 0 where
  pub len : length p' ≡ length p
  pub rows : (j : ℕ) → j < top → piece_at p' j ≡ piece_at p j

-- and the bytes below a byte
pub record BytesKept (byte : ℕ) (s s' : List ℕ) : Type 0 where
  pub len : length s' ≡ length s
  pub bytes : take byte s' ≡ take byte s

-- a chunk's texts lie below
abbrev pub TextLow : ℕ → Place → Type 0
TextLow byte r = (r.0 ≡ NONE → ⊥) → r.0 + r.1 ≤ byte

pub record RunsLow (p : List ℕ) (top byte : ℕ) (e : Entry) : Type 0 where
  pub intro : Below p byte top e.intro
  pub outro : Below p byte top e.outro

pub record EntryLow (p : List ℕ) (top byte : ℕ) (e : Entry) : Type 0 where
  pub runs : RunsLow p top byte e
  pub text : TextLow byte e.text

-- and so a whole desk's
pub record DeskLow (t p : List ℕ) (top byte : ℕ) : Type 0 where
  pub linked : Linked t
  pub desk : RunsLow p top byte (entry_at t 0)
  pub chunks : All (EntryLow p top byte) (entries t)
