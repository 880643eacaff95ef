-- The second loop of slice.rs over a desk in lent memory.
use Rattle.std.specs.Prelude.{◌≡◌, Bool, true, false, ◌&&◌, not, List, [], ◌∷◌, ◌++◌, map, ℕ, suc, ◌≤◌, ◌<◌, eqb, length, drop}
use Rattle.memory_table.specs.Order.{Entry, entries, count_of}
use Rattle.model.specs.Text.{Text}
use Rattle.model.specs.Chunk.{Chunk}
use Rattle.model.specs.Slice.{contains_end, chunk_slice, Sliced, text, refused, ends_inside, before, slice_rest}
use Rattle.model.specs.Call.{Shown}
use Rattle.report_slice_chunk.specs.Emit.{over_if}
use Rattle.memory.specs.Layout.{chunk_of}
use Rattle.memory_layout.specs.Layout.{NONE}
use Rattle.memory_view.specs.declared.DeskView.{DeskView}
use Rattle.memory_fragments.specs.Sections.{row_no}
use Rattle.report_slice_chunk.specs.Given.{holds_end}
use Rattle.report_slice_walk.specs.declared.SliceRange.{SliceRange}

abbrev pub chunks_of : List ℕ → List ℕ → List Entry → List Chunk
chunks_of p s es = map (chunk_of p s) es

-- the end lies inside a replaced chunk, and not at its edge
abbrev pub span_ends_inside : ℕ → ℕ → ℕ → ℕ → Bool
span_ends_inside start stop place end = (holds_end start stop end && not (eqb place NONE)) && not (eqb stop end)

-- the chunks from one of them on, the first with or without its intro and from a place of its content on
abbrev pub slice_walk : Text → Bool → ℕ → ℕ → List Chunk → Sliced
slice_walk source with_intro begin end [] = text []
slice_walk source with_intro begin end (c ∷ cs) =
    elim (ends_inside c end) [
      | true ↦ refused 12
      | false ↦ before (chunk_slice source with_intro begin end c) (elim (contains_end c end) [ true ↦ text [] | false ↦ slice_rest source end cs ])
    ]

-- the first chunk is one of the list, with its row
abbrev pub IsRange : DeskView → SliceRange → Type 0
IsRange v r = (r.chunk < count_of v.chunks.now) × (r.row ≡ row_no v.chunks.now (suc r.chunk))

-- what the chunks of a desk give on a range
abbrev pub walked : DeskView → SliceRange → Sliced
walked v r = slice_walk v.source.now r.with_intro r.begin r.end (chunks_of v.pieces.now v.store.now (drop r.chunk (entries v.chunks.now)))

-- it is a text that fits the buffer
abbrev pub Fits : Sliced → List ℕ → Type 0
Fits (text x) d = length x ≤ length d
Fits (refused k) d = ⊥

-- what the walk answers, and leaves in the buffer
abbrev pub Out : Bool → Sliced → List ℕ → List ℕ → ℕ → ℕ → Type 0
Out w (text x) d d' number value = (number ≡ 0) × (value ≡ length x) × (d' ≡ over_if w d 0 x)
Out w (refused k) d d' number value = (number ≡ k) × (value ≡ 0) × (w ≡ false → d' ≡ d)

-- a report's answer, and the buffer
pub record Gives (x : Shown) (out out' : List ℕ) (number value : ℕ) : Type 0 where
  pub number_is : number ≡ x.number
  pub value_is : value ≡ x.value
  pub written : out' ≡ x.written ++ drop (length x.written) out
