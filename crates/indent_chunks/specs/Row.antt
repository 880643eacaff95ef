-- One chunk of the walk: its part of the source, its replacement, or neither.
use Rattle.std.specs.Prelude.{◌≡◌, Bool, Option, MatchOption, IfSome, List, map, ◌⊎◌, ℕ, ◌+◌, ◌*◌, ◌-◌, ◌≤◌, ◌<◌, length, take}
use Rattle.memory_layout.specs.Layout.{CHUNKS, CHUNKS_LEN}
use Rattle.utf8.specs.Chars.{All}
use Rattle.memory_table.specs.Order.{Entry, entry_at, count_of, Linked}
use Rattle.model.specs.Text.{sum}
use Rattle.model.specs.Chunk.{content}
use Rattle.model.specs.Limits.{chunk_pieces, chunk_bytes}
use Rattle.model.specs.WellFormed.{Valid}
use Rattle.memory.specs.Layout.{chunk_of}
use Rattle.memory_texts.specs.Texts.{SpanIn}
use Rattle.memory_list.specs.Insert.{Placed}
use Rattle.memory_texts.specs.Low.{RowsKept, BytesKept, TextLow, EntryLow}
use Rattle.model_indent_closed.specs.Indent.{IndentedChunks, indented_chunk}
use Rattle.indent_cuts.specs.Splice.{Spliced}
use Rattle.indent_head_tail.specs.Own.{IndentorAt}
use Rattle.indent_chunks.specs.declared.Walked.{Walked}

-- ---- what a row asks

-- a row, and room for what may become of it. The indentor lies at byte `laid`, if it is laid yet
pub record RowAt (indentor source t p s : List ℕ) (i top byte : ℕ) (laid : Option ℕ) : Type 0 where
  pub linked : Linked t
  pub placed : Placed t i
  pub span : SpanIn source (entry_at t i)
  pub valid : Valid (content source (chunk_of p s (entry_at t i)))
  pub low : EntryLow p top byte (entry_at t i)
  pub indentor_at : IfSome laid (IndentorAt indentor s byte)
  pub chunk_rows : CHUNKS_LEN ≤ length t
  pub narrow_chunks : length t ≤ 4294967296
  pub rows : (top + (CHUNKS - count_of t) + ((entry_at t i).intro.1 + 1)) * 2 ≤ length p
  pub narrow_pieces : length p < 4294967296
  pub byte_in : byte ≤ length s
  pub narrow : length s < 4294967295

pub record RowReady (indentor source store t p s : List ℕ) (i top byte : ℕ) (laid : Option ℕ) : Type 0 where
  pub row : RowAt indentor source t p s i top byte laid
  pub text_low : TextLow (length store) (entry_at t i).text
  pub store_front : take (length store) s ≡ store

-- what the model leaves of it
abbrev pub closed_row : List ℕ → List ℕ → List ℕ → List ℕ → List ℕ → List ℕ → ℕ → Bool → IndentedChunks
closed_row indentor exclude source t p s i mark = indented_chunk indentor exclude source mark (chunk_of p s (entry_at t i))

pub record RowIndented (indentor exclude source t p s : List ℕ) (i : ℕ) (mark : Bool) (top byte : ℕ) (t' p' s' : List ℕ) (mark' : Bool) (top' byte' : ℕ) (laid' : Option ℕ) : Type 0 where
  pub es : List Entry
  pub spliced : Spliced t t' i es
  pub rows : RowsKept top p p'
  pub bytes : BytesKept byte s s'
  pub top_up : top ≤ top'
  pub byte_up : byte ≤ byte'
  pub byte_in : byte' ≤ length s'
  pub chunks : map (chunk_of p' s') es ≡ (closed_row indentor exclude source t p s i mark).chunks
  pub mark_is : mark' ≡ (closed_row indentor exclude source t p s i mark).mark
  pub low : All (EntryLow p' top' byte') es
  pub indentor_at : IfSome laid' (IndentorAt indentor s' byte')
  pub rows_used : top' + (CHUNKS - count_of t') ≤ top + (CHUNKS - count_of t) + (chunk_pieces (chunk_of p s (entry_at t i)) + 1)
  pub bytes_used : byte' ≤ byte + sum chunk_bytes (closed_row indentor exclude source t p s i mark).chunks

-- it is indented; or the chunks pass a limit: there are too many, or more new bytes than the scratch store has room for
abbrev pub RowDone : List ℕ → List ℕ → List ℕ → List ℕ → List ℕ → List ℕ → ℕ → Bool → ℕ → ℕ → List ℕ → List ℕ → List ℕ → Option Walked → Type 0
RowDone indentor exclude source t p s i mark top byte t' p' s' r =
    MatchOption r
    ((CHUNKS + 1 < count_of t + length (closed_row indentor exclude source t p s i mark).chunks)
    ⊎ (length s < byte + sum chunk_bytes (closed_row indentor exclude source t p s i mark).chunks))
    (λ w. RowIndented indentor exclude source t p s i mark top byte t' p' s' w.mark w.top w.byte w.laid)
