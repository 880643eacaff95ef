-- Laws of what `Pieces` in specs/ defines.
use mathlib.Core.Path.{◌≡◌, refl, sym, ap, ◌∙◌}
use mathlib.Core.List.{List, [], ◌∷◌}
use Prim.Native.Nat.{ℕ, ◌+◌, ◌*◌, ◌≤◌}
use native.Mathlib.Numerals.{add-one}
use native.Mathlib.Nat.{add-zero}
use lib.ListN.{length, get_or, set}
use lib.Seq.{sets}
use Rattle.memory_layout.specs.Layout.{PIECE}
use Rattle.memory_table.specs.declared.Piece.{Piece}
use Rattle.memory_table.proofs.Words.{cells, cells_word, cells_same, cells_other}
use Rattle.memory_table.specs.Pieces.{piece_at, with_piece, PutPiece}

abbrev piece_of : List ℕ → Piece
piece_of c = record { at = get_or c 0 0; n = get_or c 1 0 }

piece_cells : (t : List ℕ) (i : ℕ) → piece_of (cells PIECE t i) ≡ piece_at t i
piece_cells t i = simp (cells_word PIECE t i, add-zero)

-- what `set_piece` leaves
pub put_piece_of : (t t' : List ℕ) (i : ℕ) (r : Piece) → i * PIECE + PIECE ≤ length t → t' ≡ with_piece t i r.at r.n → PutPiece t t' i r
put_piece_of t t' i r h e =
    let stored : t' ≡ sets t (i * PIECE) (r.at ∷ r.n ∷ []) = e ∙ ap (λ (k : ℕ). set (set t (i * PIECE) r.at) k r.n) (add-one (i * PIECE)) in
    rw stored
    (record {
      here = sym (piece_cells _ i) ∙ ap piece_of (cells_same PIECE t i (r.at ∷ r.n ∷ []) refl h);
      off = λ j n. sym (piece_cells _ j) ∙ ap piece_of (cells_other PIECE t i (r.at ∷ r.n ∷ []) refl h j n) ∙ piece_cells t j;
    })
