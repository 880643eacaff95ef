-- Laws of what `Table` in specs/ defines.
use mathlib.Core.Path.{◌≡◌, refl, sym, ap, ◌∙◌}
use mathlib.Core.List.{List, [], ◌∷◌}
use Prim.Native.Nat.{ℕ, ◌+◌, ◌*◌, ◌≤◌}
use lib.ListN.{length, get_or}
use lib.Seq.{sets}
use native.Mathlib.Nat.{add-zero}
use Rattle.memory_layout.specs.Layout.{ROW}
use Rattle.memory_table.proofs.Words.{cells, cells_word, cells_same, cells_other}
use Rattle.memory_table.specs.declared.Row.{Row}
use Rattle.memory_table.specs.Table.{row_at, Put}

-- the words of a row, and the row of such words
abbrev pub words_of : Row → List ℕ
words_of r =
    r.start ∷ r.end ∷ r.next ∷ r.prev ∷ r.intro_at ∷ r.intro_n ∷ r.outro_at ∷ r.outro_n ∷ r.text_at ∷ r.text_n ∷ r.frozen ∷ r.spare ∷ []

abbrev pub row_of : List ℕ → Row
row_of c =
    record {
      start = get_or c 0 0;
      end = get_or c 1 0;
      next = get_or c 2 0;
      prev = get_or c 3 0;
      intro_at = get_or c 4 0;
      intro_n = get_or c 5 0;
      outro_at = get_or c 6 0;
      outro_n = get_or c 7 0;
      text_at = get_or c 8 0;
      text_n = get_or c 9 0;
      frozen = get_or c 10 0;
      spare = get_or c 11 0;
    }

row_cells : (t : List ℕ) (i : ℕ) → row_of (cells ROW t i) ≡ row_at t i
row_cells t i = simp (cells_word ROW t i, add-zero)

-- what storing the row's words leaves
pub put_of : (t t' : List ℕ) (i : ℕ) (r : Row) → i * ROW + ROW ≤ length t → t' ≡ sets t (i * ROW) (words_of r) → Put t t' i r
put_of t t' i r h e =
    rw e
    (record {
      at = sym (row_cells _ i) ∙ ap row_of (cells_same ROW t i (words_of r) refl h);
      off = λ j n. sym (row_cells _ j) ∙ ap row_of (cells_other ROW t i (words_of r) refl h j n) ∙ row_cells t j;
    })
