-- The walk of a trim along the chunk list, from its first row on or from its last one back: blank chunks are cleared until one stops the trim.
use Rattle.std.specs.Prelude.{◌≡◌, Bool, true, false, List, [], ◌∷◌, ◌++◌, map, Option, Some, None, ℕ, ◌+◌, ◌≤◌, ◌<◌, length}
use Rattle.utf8.specs.Chars.{All}
use Rattle.memory_table.specs.declared.Row.{Row}
use Rattle.memory_table.specs.Ring.{Each, Not}
use Rattle.memory_table.specs.Table.{row_at}
use Rattle.memory_table.specs.Order.{entry_at, entries, order, next_of, prev_of, count_of, Linked}
use Rattle.model.specs.Text.{sum}
use Rattle.model.specs.Trim.{trim_chunks}
use Rattle.memory.specs.Layout.{chunk_of}
use Rattle.memory_texts.specs.Low.{RowsKept, BytesKept, EntryLow}
use Rattle.trim_chunk.specs.Sides.{trim_chunk}
use Rattle.trim_chunk.specs.Plain.{plain_of}
use Rattle.trim_chunk.specs.Row.{clear_of, blank_row, RowReady, RowFits, pieces_of}
use Rattle.trim_chunks.specs.Apart.{ChunksApart}
use Rattle.trim_chunks.specs.Sums.{way}

-- the next row in that direction
abbrev pub step_of : Bool → Row → ℕ
step_of true r = r.next
step_of false r = r.prev

abbrev pub head_or : List ℕ → ℕ
head_or [] = 0
head_or (x ∷ l) = x

-- ---- where row i stands

pub record Standing (front : Bool) (t us : List ℕ) (i : ℕ) (bs : List ℕ) : Type 0 where
  pub apart_before : Each (Not i) us
  pub apart_behind : Each (Not i) bs
  pub positive : 0 < i
  pub most : i ≤ count_of t
  pub step : step_of front (row_at t i) ≡ head_or bs

-- ---- the walk: us are cleared, rest is as it was

pub record WalkAt (front : Bool) (pattern : ℕ) (source p s t₀ t : List ℕ) (n k cur : ℕ) : Type 0 where
  pub us : List ℕ
  pub rest : List ℕ
  pub place : way front (order t₀) ≡ us ++ rest
  pub size : length rest + k ≡ n
  pub here : cur ≡ head_or rest
  pub blanks : Each (λ x. blank_row pattern source p s (entry_at t₀ x) ≡ true) us
  pub done : Each (λ x. entry_at t x ≡ clear_of (entry_at t₀ x)) us
  pub todo : Each (λ x. row_at t x ≡ row_at t₀ x) rest
  pub desk : row_at t 0 ≡ row_at t₀ 0
  pub next : (x : ℕ) → next_of t x ≡ next_of t₀ x
  pub prev : (x : ℕ) → prev_of t x ≡ prev_of t₀ x
  pub len : length t ≡ length t₀

-- the row that is next
pub record NextRow (front : Bool) (t₀ t us rest : List ℕ) (cur : ℕ) : Type 0 where
  pub bs : List ℕ
  pub rest_is : rest ≡ cur ∷ bs
  pub stands : Standing front t₀ us cur bs
  pub row_is : row_at t cur ≡ row_at t₀ cur
  pub later : Each (λ x. row_at t x ≡ row_at t₀ x) bs

-- ---- where the walk ends: a row stops it, or every chunk is blank

abbrev pub WalkEnd : Bool → ℕ → List ℕ → List ℕ → List ℕ → List ℕ → List ℕ → List ℕ → List ℕ → Option ℕ → Type 0
WalkEnd front pattern source p s t₀ t us rest None = rest ≡ []
WalkEnd front pattern source p s t₀ t us rest (Some i) = NextRow front t₀ t us rest i × (blank_row pattern source p s (entry_at t₀ i) ≡ false)

pub record Walked (front : Bool) (pattern : ℕ) (source p s t₀ t : List ℕ) (found : Option ℕ) : Type 0 where
  pub n : ℕ
  pub k : ℕ
  pub cur : ℕ
  pub at : WalkAt front pattern source p s t₀ t n k cur
  pub ends : WalkEnd front pattern source p s t₀ t at.us at.rest found

-- ---- the chunks, trimmed

-- what is asked of every row: wide is a bound of its pieces
abbrev pub ReadyAt : List ℕ → List ℕ → List ℕ → ℕ → ℕ → ℕ → List ℕ → ℕ → Type 0
ReadyAt source p s top wide byte t x = RowReady source p s (entry_at t x) × (RowFits p s top byte (entry_at t x) × (pieces_of (entry_at t x) ≤ wide))

pub record ChunksReady (source p s : List ℕ) (top wide byte : ℕ) (t : List ℕ) : Type 0 where
  pub linked : Linked t
  pub each : Each (ReadyAt source p s top wide byte t) (order t)

-- all pieces of the chunks
abbrev pub chunk_row_count : List ℕ → ℕ
chunk_row_count t = sum pieces_of (entries t)

-- the row and the byte b are behind all that the chunks use; what b lies further on is no longer plain
pub record ChunksTrimmed (front : Bool) (pattern : ℕ) (source p s : List ℕ) (top wide byte : ℕ) (t p' s' t' : List ℕ) (row b : ℕ) : Type 0 where
  pub linked : Linked t'
  pub place : order t' ≡ order t
  pub desk : row_at t' 0 ≡ row_at t 0
  pub len : length t' ≡ length t
  pub rows : RowsKept top p p'
  pub bytes : BytesKept byte s s'
  pub first : top ≤ row
  pub most : row ≤ top + wide
  pub least : byte ≤ b
  pub low : All (EntryLow p' row b) (entries t')
  pub spent : b + sum plain_of (entries t') ≤ byte + sum plain_of (entries t)
  pub apart : ChunksApart p p' top byte t t'
  pub chunks : map (chunk_of p' s') (entries t') ≡ way front (trim_chunks (trim_chunk front pattern source) (way front (map (chunk_of p s) (entries t))))
