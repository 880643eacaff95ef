-- Rows of words in a flat list, read pointwise.
use Rattle.std.specs.Prelude.{◌≡◌, List, ℕ, ◌+◌, ◌*◌, get_or}
use Rattle.memory_layout.specs.Layout.{ROW, END, NEXT, PREV, INTRO_AT, INTRO_N, OUTRO_AT, OUTRO_N, TEXT_AT, TEXT_N, FROZEN, SPARE}
use Rattle.memory_table.specs.declared.Row.{Row}

-- row i of the table t: its words from i * ROW on
abbrev pub row_at : List ℕ → ℕ → Row
row_at t i =
    record {
      start = get_or t (i * ROW) 0;
      end = get_or t (i * ROW + END) 0;
      next = get_or t (i * ROW + NEXT) 0;
      prev = get_or t (i * ROW + PREV) 0;
      intro_at = get_or t (i * ROW + INTRO_AT) 0;
      intro_n = get_or t (i * ROW + INTRO_N) 0;
      outro_at = get_or t (i * ROW + OUTRO_AT) 0;
      outro_n = get_or t (i * ROW + OUTRO_N) 0;
      text_at = get_or t (i * ROW + TEXT_AT) 0;
      text_n = get_or t (i * ROW + TEXT_N) 0;
      frozen = get_or t (i * ROW + FROZEN) 0;
      spare = get_or t (i * ROW + SPARE) 0;
    }

-- t' is t with row i written as r
pub record Put (t t' : List ℕ) (i : ℕ) (r : Row) : Type 0 where
  pub at : row_at t' i ≡ r
  pub off : (j : ℕ) → (j ≡ i → ⊥) → row_at t' j ≡ row_at t j
