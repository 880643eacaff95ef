-- A source chunk cut at its line starts, on rows: each part that begins at one has the indentor as its first intro piece.
use Rattle.std.specs.Prelude.{◌≡◌, Bool, true, false, Option, MatchOption, List, [], ◌∷◌, map, ℕ, suc, ◌+◌, ◌*◌, ◌-◌, ◌≤◌, ◌<◌, ltb, length}
use Rattle.memory_layout.specs.Layout.{CHUNKS, CHUNKS_LEN}
use Rattle.utf8.specs.Chars.{All}
use Rattle.memory_table.specs.Order.{Entry, entry_at, count_of, Linked}
use Rattle.model.specs.Indent.{Starts}
use Rattle.memory.specs.Layout.{Place, bytes_at, chunk_of}
use Rattle.memory_list.specs.Insert.{Placed}
use Rattle.memory_texts.specs.Low.{RowsKept, EntryLow}
use Rattle.model_indent_closed.specs.Indent.{split_lines}
use Rattle.indent_mark.specs.Bytes.{starts_from, part}
use Rattle.indent_cuts.specs.declared.Cut.{Cut}
use Rattle.indent_cuts.specs.Splice.{Spliced}

-- the line starts of the source from a position up to another, and the mark behind them
abbrev pub lines_from : List ℕ → List ℕ → Bool → ℕ → ℕ → Starts
lines_from exclude source mark from end = starts_from exclude mark from (part source from end)

-- how many chunks a chunk becomes
abbrev pub parts : ℕ → List ℕ → ℕ
parts a [] = 1
parts a (i ∷ l) = elim (ltb a i) [ true ↦ suc (parts i l) | false ↦ parts a l ]

-- ---- what cuts ask and leave

-- cuts behind the row's start: there is room for as many rows, and piece rows, as chunks may still come
pub record LinesReady (source t p : List ℕ) (i from end top : ℕ) : Type 0 where
  pub linked : Linked t
  pub placed : Placed t i
  pub after : (entry_at t i).start < from
  pub up_to : from ≤ end
  pub inside : end ≤ length source
  pub rows : CHUNKS_LEN ≤ length t
  pub narrow : length t ≤ 4294967296
  pub piece_rows : (top + (CHUNKS - count_of t)) * 2 ≤ length p
  pub narrow_pieces : length p ≤ 4294967296

-- row i cut at some starts, with the text at y in front of each part that begins at one. Each part takes a piece row, and `more` rows are used besides
pub record Parts (more : ℕ) (t p : List ℕ) (i top : ℕ) (y : Place) (starts t' p' : List ℕ) (top' : ℕ) : Type 0 where
  pub es : List Entry
  pub spliced : Spliced t t' i es
  pub rows : RowsKept top p p'
  pub up : top ≤ top'
  pub used : top' + (CHUNKS - count_of t') ≤ top + (CHUNKS - count_of t) + more
  pub low : (byte : ℕ) → y.0 + y.1 ≤ byte → EntryLow p top byte (entry_at t i) → All (EntryLow p' top' byte) es
  pub chunks : (s : List ℕ) (byte : ℕ) → y.0 + y.1 ≤ byte → EntryLow p top byte (entry_at t i)
      → map (chunk_of p' s) es ≡ split_lines (bytes_at s y) (chunk_of p s (entry_at t i)) starts

-- the parts, and the mark behind the chunk; or there would be too many chunks
abbrev pub PartsDone : ℕ → List ℕ → List ℕ → ℕ → ℕ → Place → Starts → List ℕ → List ℕ → Option Cut → Type 0
PartsDone more t p i top y starts t' p' r =
    MatchOption r (CHUNKS + 1 < count_of t + parts (entry_at t i).start starts.starts) (λ c. Parts more t p i top y starts.starts t' p' c.top × (c.mark ≡ starts.mark))
