-- The walk along the list: the chunks before a row are indented, those from it on are as they were.
use Rattle.std.specs.Prelude.{◌≡◌, Bool, Option, IfSome, List, [], ◌∷◌, ◌++◌, map, ℕ, ◌+◌, ◌-◌, ◌≤◌, length}
use Rattle.memory_layout.specs.Layout.{CHUNKS}
use Rattle.utf8.specs.Chars.{All}
use Rattle.memory_table.specs.Table.{row_at}
use Rattle.memory_table.specs.Order.{Entry, entry_at, order, count_of, Linked}
use Rattle.model.specs.Text.{sum}
use Rattle.model.specs.Chunk.{Chunk, content}
use Rattle.model.specs.Limits.{chunk_pieces, chunk_bytes}
use Rattle.model.specs.WellFormed.{Valid}
use Rattle.memory.specs.Layout.{chunk_of}
use Rattle.memory_texts.specs.Texts.{SpanIn}
use Rattle.memory_list.specs.Insert.{runs_of}
use Rattle.memory_texts.specs.Low.{RowsKept, BytesKept, TextLow, EntryLow}
use Rattle.model_indent_closed.specs.Indent.{then_chunks, indented_chunks}
use Rattle.indent_head_tail.specs.Own.{IndentorAt}
use Rattle.indent_chunks.specs.Walk.{chunks_of, closed_of}

-- a row that the walk has not come to
pub record RestRow (source store p s : List ℕ) (top byte : ℕ) (e : Entry) : Type 0 where
  pub low : EntryLow p top byte e
  pub span : SpanIn source e
  pub valid : Valid (content source (chunk_of p s e))
  pub text_low : TextLow (length store) e.text

abbrev pub head_or : List ℕ → ℕ
head_or [] = 0
head_or (x ∷ l) = x

-- the chunks of some rows
abbrev pub chunks_of_rows : List ℕ → List ℕ → List ℕ → List ℕ → List Chunk
chunks_of_rows t p s xs = map (chunk_of p s) (map (entry_at t) xs)

-- k of n chunks are done: the rows us hold what became of them
pub record WalkAt (indentor exclude source store t₀ p₀ s₀ : List ℕ) (mark₀ : Bool) (top₀ byte₀ n : ℕ) (t p s : List ℕ) (k cur : ℕ) (mark : Bool) (top byte : ℕ) (laid : Option ℕ) : Type 0 where
  pub us : List ℕ
  pub rest : List ℕ
  pub order_is : order t ≡ us ++ rest
  pub size : length rest + k ≡ n
  pub here : cur ≡ head_or rest
  pub linked : Linked t
  pub desk : runs_of (row_at t 0) ≡ runs_of (row_at t₀ 0)
  pub len : length t ≡ length t₀
  pub rows : RowsKept top₀ p₀ p
  pub bytes : BytesKept byte₀ s₀ s
  pub top_up : top₀ ≤ top
  pub byte_up : byte₀ ≤ byte
  pub byte_in : byte ≤ length s
  pub low : All (EntryLow p top byte) (map (entry_at t) us)
  pub todo : All (RestRow source store p s top byte) (map (entry_at t) rest)
  pub indentor_at : IfSome laid (IndentorAt indentor s byte)
  pub result : closed_of indentor exclude source t₀ p₀ s₀ mark₀ ≡ then_chunks (chunks_of_rows t p s us) (indented_chunks indentor exclude source mark (chunks_of_rows t p s rest))
  pub rows_used : top + (CHUNKS - count_of t) + (sum chunk_pieces (chunks_of_rows t p s rest) + length rest) ≤ top₀ + (sum chunk_pieces (chunks_of t₀ p₀ s₀) + CHUNKS)
  pub bytes_used : byte ≤ byte₀ + sum chunk_bytes (chunks_of_rows t p s us)
