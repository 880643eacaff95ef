-- What a chunk without a replacement and with a line start asks.
use Rattle.std.specs.Prelude.{◌≡◌, true, false, List, ℕ, ◌+◌, ◌*◌, ◌-◌, ◌≤◌, ◌<◌, length}
use Rattle.memory_layout.specs.Layout.{CHUNKS, CHUNKS_LEN}
use Rattle.memory_table.specs.Order.{entry_at, count_of, Linked}
use Rattle.model.specs.Indent.{then_start}
use Rattle.memory_list.specs.Insert.{Placed}
use Rattle.indent_cuts.specs.Lines.{lines_from}

-- x is its first line start; its intro lies below row top, and there is room for a copy of it with a row more, and for a row for each chunk that may still come
pub record SourceReady (exclude source t p : List ℕ) (i start x end top : ℕ) : Type 0 where
  pub linked : Linked t
  pub placed : Placed t i
  pub at_start : start ≡ (entry_at t i).start
  pub from_on : start ≤ x
  pub below : x < end
  pub inside : end ≤ length source
  pub begins : lines_from exclude source true x end ≡ then_start x (lines_from exclude source false (x + 1) end)
  pub under : (k : ℕ) → k < (entry_at t i).intro.1 → (entry_at t i).intro.0 + k < top
  pub chunk_rows : CHUNKS_LEN ≤ length t
  pub narrow_chunks : length t ≤ 4294967296
  pub piece_rows : (top + (CHUNKS - count_of t) + ((entry_at t i).intro.1 + 1)) * 2 ≤ length p
  pub narrow_pieces : length p ≤ 4294967296
