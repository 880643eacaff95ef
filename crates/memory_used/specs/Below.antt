-- What lies below a row of the piece table and a byte of the store.
use Rattle.std.specs.Prelude.{◌≡◌, List, ℕ, ◌+◌, ◌≤◌, ◌<◌}
use Rattle.memory_table.specs.Order.{Entry}
use Rattle.memory_layout.specs.Layout.{NONE}
use Rattle.memory.specs.Layout.{Place, piece_at}

-- a run of rows below a row, whose texts end at or before a byte
abbrev pub Below : List ℕ → ℕ → ℕ → Place → Type 0
Below p byte row r = (k : ℕ) → k < r.1 → (r.0 + k < row) × ((piece_at p (r.0 + k)).0 + (piece_at p (r.0 + k)).1 ≤ byte)

-- an entry whose piece rows lie below a row and whose texts end at or before a byte
pub record EntryBelow (p : List ℕ) (byte row : ℕ) (e : Entry) : Type 0 where
  pub intro : Below p byte row e.intro
  pub outro : Below p byte row e.outro
  pub text : (e.text.0 ≡ NONE → ⊥) → e.text.0 + e.text.1 ≤ byte
