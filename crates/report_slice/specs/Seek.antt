-- The first loop of slice.rs over a desk in lent memory: the chunk that holds the start.
use Rattle.std.specs.Prelude.{◌≡◌, Bool, false, ◌&&◌, ◌||◌, not, List, ℕ, suc, ◌<◌, ltb, leb, eqb, drop, Some, None, Option as Answer}
use Rattle.std.proofs.Math.Option.{Option, none, some}
use Rattle.memory_table.specs.Order.{entries, count_of}
use Rattle.model.specs.Slice.{find_start, from, nothing}
use Rattle.memory.specs.Layout.{chunk_of}
use Rattle.memory_layout.specs.Layout.{NONE}
use Rattle.memory_fragments.specs.Sections.{section, row_no}
use Rattle.report_slice.specs.declared.SliceStart.{SliceStart}
use Rattle.report_slice_walk.specs.Walk.{chunks_of}

abbrev pub misses : ℕ → ℕ → ℕ → Bool
misses at start stop = ltb at start || leb stop at

-- the chunk k of the list holds the start, and the walk comes to it
pub record Starts (t : List ℕ) (start end k row : ℕ) : Type 0 where
  pub inside : k < count_of t
  pub row_is : row ≡ row_no t (suc k)
  pub holds : misses start (section t (suc k)).start (section t (suc k)).end ≡ false
  pub find : (p s : List ℕ) → find_start start end (chunks_of p s (entries t)) ≡ from (chunk_of p s (section t (suc k))) (chunks_of p s (drop (suc k) (entries t)))

unfoldable pub FoundStart : List ℕ → ℕ → ℕ → Answer SliceStart → Type 0
FoundStart t start end (Some s) = Starts t start end s.chunk s.row
FoundStart t start end None = (p s : List ℕ) → find_start start end (chunks_of p s (entries t)) ≡ nothing

-- the start lies inside a replaced chunk, and not at its edge
abbrev pub span_starts_inside : ℕ → ℕ → ℕ → Bool
span_starts_inside start place at = not (eqb place NONE) && not (eqb start at)

-- an end, given or absent, as the model's
abbrev pub given : Answer ℕ → Option ℕ
given (Some e) = some e
given None = none
