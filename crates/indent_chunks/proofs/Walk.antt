-- Laws of what `Walk` in specs/ defines.
use mathlib.Core.Path.{◌≡◌}
use mathlib.Core.Bool.{Bool}
use mathlib.Core.List.{List}
use mathlib.Core.Logic.{◌⊎◌}
use Prim.Native.Nat.{ℕ, ◌+◌, ◌≤◌, ◌<◌}
use lib.ListN.{length}
use Rattle.memory_layout.specs.Layout.{CHUNKS}
use Rattle.utf8.specs.Chars.{All}
use Rattle.memory_table.specs.Table.{row_at}
use Rattle.memory_table.specs.Order.{entries, Linked}
use Rattle.model.specs.Text.{sum}
use Rattle.model.specs.Chunk.{Chunk}
use Rattle.model.specs.Limits.{chunk_pieces, chunk_bytes}
use Rattle.memory_list.specs.Insert.{runs_of}
use Rattle.memory_texts.specs.Low.{RowsKept, BytesKept, EntryLow}
use Rattle.indent_chunks.specs.Walk.{chunks_of, closed_of}

-- the chunks, indented
pub record ChunksIndented (indentor exclude source t p s : List ℕ) (mark : Bool) (top byte : ℕ) (t' p' s' : List ℕ) (mark' : Bool) (top' byte' : ℕ) : Type 0 where
  pub linked : Linked t'
  pub desk : runs_of (row_at t' 0) ≡ runs_of (row_at t 0)
  pub rows : RowsKept top p p'
  pub bytes : BytesKept byte s s'
  pub top_up : top ≤ top'
  pub byte_up : byte ≤ byte'
  pub byte_in : byte' ≤ length s'
  pub low : All (EntryLow p' top' byte') (entries t')
  pub chunks : chunks_of t' p' s' ≡ (closed_of indentor exclude source t p s mark).chunks
  pub mark_is : mark' ≡ (closed_of indentor exclude source t p s mark).mark
  pub rows_used : top' ≤ top + (sum chunk_pieces (chunks_of t p s) + CHUNKS)
  pub bytes_used : byte' ≤ byte + sum chunk_bytes (closed_of indentor exclude source t p s mark).chunks

-- the model's chunks pass a limit: there are too many, or more new bytes than the scratch store has room for
abbrev pub Past : List Chunk → ℕ → ℕ → Type 0
Past cs byte size = (CHUNKS < length cs) ⊎ (size < byte + sum chunk_bytes cs)
