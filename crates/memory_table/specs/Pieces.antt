-- Piece rows: two words each.
use Rattle.std.specs.Prelude.{◌≡◌, List, ℕ, ◌+◌, ◌*◌, get_or, set}
use Rattle.memory_layout.specs.Layout.{PIECE, PIECE_N}
use Rattle.memory_table.specs.declared.Piece.{Piece}

abbrev pub piece_at : List ℕ → ℕ → Piece
piece_at t i = record { at = get_or t (i * PIECE) 0; n = get_or t (i * PIECE + PIECE_N) 0 }

-- the table with other words in row i
abbrev pub with_piece : List ℕ → ℕ → ℕ → ℕ → List ℕ
with_piece t i at n = set (set t (i * PIECE) at) (i * PIECE + PIECE_N) n

pub record PutPiece (t t' : List ℕ) (i : ℕ) (r : Piece) : Type 0 where
  pub here : piece_at t' i ≡ r
  pub off : (j : ℕ) → (j ≡ i → ⊥) → piece_at t' j ≡ piece_at t j
