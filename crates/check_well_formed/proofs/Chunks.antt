-- What is said of the chunk list in list order, by row number.
use mathlib.Core.Path.{◌≡◌, ◌∙◌}
use mathlib.Core.List.{List, map}
use Prim.Native.Nat.{ℕ, ◌+◌, ◌<◌}
use lib.ListN.{length, length-map}
use Rattle.utf8.specs.Chars.{All}
use Rattle.memory_table.specs.Order.{Entry, entry_at, entries, order, count_of, Linked}
use Rattle.memory_table.proofs.Order.{count_entries}
use Rattle.model.specs.Text.{sum}
use Rattle.model.specs.Chunk.{Chunk}
use Rattle.model.proofs.Lists.{sum_map, map_keeps, map_kept}
use Rattle.memory.specs.Layout.{chunk_of}
use Rattle.memory_counting.specs.Counts.{sum_to}
use Rattle.memory_counting.proofs.Once.{sum_once, all_once, once_all, linked_once}

-- the chunks of the desk that the tables hold
abbrev pub chunks_of : List ℕ → List ℕ → List ℕ → List Chunk
chunks_of t p s = map (chunk_of p s) (entries t)

module _ (t : List ℕ) (l : Linked t) where
  pub sum_entries : (f : Entry → ℕ) → sum f (entries t) ≡ sum_to (λ k. f (entry_at t (k + 1))) (count_of t)
  sum_entries f = sum_map (entry_at t) f (order t) ∙ sum_once (linked_once t l) (λ i. f (entry_at t i))

  pub all_entries : {P : Entry → Type 0} → ((k : ℕ) → k < count_of t → P (entry_at t (k + 1))) → All P (entries t)
  all_entries h = map_keeps (entry_at t) (all_once (linked_once t l) h)

  pub entries_all : {P : Entry → Type 0} → All P (entries t) → (k : ℕ) → k < count_of t → P (entry_at t (k + 1))
  entries_all a = once_all (linked_once t l) (map_kept (entry_at t) (order t) a)

  module _ (p s : List ℕ) where
    pub sum_chunks : (f : Chunk → ℕ) → sum f (chunks_of t p s) ≡ sum_to (λ k. f (chunk_of p s (entry_at t (k + 1)))) (count_of t)
    sum_chunks f = sum_map (chunk_of p s) f (entries t) ∙ sum_entries (λ e. f (chunk_of p s e))

    pub all_chunks : {P : Chunk → Type 0} → ((k : ℕ) → k < count_of t → P (chunk_of p s (entry_at t (k + 1)))) → All P (chunks_of t p s)
    all_chunks h = map_keeps (chunk_of p s) (all_entries h)

    pub chunks_all : {P : Chunk → Type 0} → All P (chunks_of t p s) → (k : ℕ) → k < count_of t → P (chunk_of p s (entry_at t (k + 1)))
    chunks_all a = entries_all (map_kept (chunk_of p s) (entries t) a)

pub length_chunks : (t p s : List ℕ) → length (chunks_of t p s) ≡ count_of t
length_chunks t p s = length-map (entries t) (chunk_of p s) ∙ count_entries t
