-- What the walk of `indent_with` over the chunks asks and leaves, on scratch tables that only grow: new piece rows from row top on, new texts from `byte` on.
use Rattle.std.specs.Prelude.{◌≡◌, Bool, List, [], map, ℕ, ◌+◌, ◌*◌, ◌≤◌, ◌<◌, length, take}
use Rattle.memory_layout.specs.Layout.{CHUNKS, CHUNKS_LEN}
use Rattle.utf8.specs.Chars.{All}
use Rattle.memory_table.specs.Order.{entries, count_of, Linked}
use Rattle.model.specs.Text.{Text, sum}
use Rattle.model.specs.Chunk.{Chunk}
use Rattle.model.specs.MagicString.{MagicString}
use Rattle.model.specs.Limits.{chunk_pieces}
use Rattle.model.specs.WellFormed.{Formed}
use Rattle.memory.specs.Layout.{chunk_of}
use Rattle.memory_texts.specs.Low.{TextLow, EntryLow}
use Rattle.model_indent_closed.specs.Indent.{IndentedChunks, indented_chunks}

-- a desk's chunks alone
abbrev pub body_of : Text → List Chunk → MagicString
body_of source cs = record { source = source; intro = []; outro = []; chunks = cs }

-- the chunks that the tables hold
abbrev pub chunks_of : List ℕ → List ℕ → List ℕ → List Chunk
chunks_of t p s = map (chunk_of p s) (entries t)

-- the lent store is the front of the scratch one, and the chunks' texts lie there. There is room for a row for each piece, and for each chunk that there may be
pub record WalkReady (source store t p s : List ℕ) (top byte : ℕ) : Type 0 where
  pub linked : Linked t
  pub formed : Formed (body_of source (chunks_of t p s))
  pub low : All (EntryLow p top byte) (entries t)
  pub texts_low : All (λ e. TextLow (length store) e.text) (entries t)
  pub store_front : take (length store) s ≡ store
  pub store_low : length store ≤ byte
  pub few : count_of t ≤ CHUNKS
  pub chunk_rows : CHUNKS_LEN ≤ length t
  pub narrow_chunks : length t ≤ 4294967296
  pub rows : (top + (sum chunk_pieces (chunks_of t p s) + CHUNKS)) * 2 ≤ length p
  pub narrow_pieces : length p < 4294967296
  pub byte_in : byte ≤ length s
  pub narrow : length s < 4294967295

-- what the model leaves of the chunks
abbrev pub closed_of : List ℕ → List ℕ → List ℕ → List ℕ → List ℕ → List ℕ → Bool → IndentedChunks
closed_of indentor exclude source t p s mark = indented_chunks indentor exclude source mark (chunks_of t p s)
