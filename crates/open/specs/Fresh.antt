-- The rows that an opening writes: the desk's own and one chunk over the whole source.
use Rattle.std.specs.Prelude.{◌≡◌, List, ℕ, ◌<◌, length}
use Rattle.memory_table.specs.declared.Row.{Row}
use Rattle.memory_table.specs.Table.{row_at}
use Rattle.memory_layout.specs.Layout.{NONE}

-- row 0: one chunk, first and last in the list; no head and no tail
abbrev pub desk_row : Row
desk_row =
    record {
      start = 1;
      end = 0;
      next = 1;
      prev = 1;
      intro_at = 0;
      intro_n = 0;
      outro_at = 0;
      outro_n = 0;
      text_at = NONE;
      text_n = 0;
      frozen = 0;
      spare = 0;
    }

-- row 1: the source's bytes 0 to len, no pieces, no replacement
abbrev pub chunk_row : ℕ → Row
chunk_row len =
    record {
      start = 0;
      end = len;
      next = 0;
      prev = 0;
      intro_at = 0;
      intro_n = 0;
      outro_at = 0;
      outro_n = 0;
      text_at = NONE;
      text_n = 0;
      frozen = 0;
      spare = 0;
    }

-- t' is t with these two rows
pub record Fresh (t t' : List ℕ) (len : ℕ) : Type 0 where
  pub desk : row_at t' 0 ≡ desk_row
  pub chunk : row_at t' 1 ≡ chunk_row len
  pub others : (j : ℕ) → 1 < j → row_at t' j ≡ row_at t j
  pub same : length t' ≡ length t
