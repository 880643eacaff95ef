-- The spans of a chunk table by row number: they cover the source once, with ends between characters.
use Rattle.std.specs.Prelude.{◌≡◌, true, List, ℕ, ◌+◌, ◌≤◌, ◌<◌, length}
use Rattle.memory_table.specs.Table.{row_at}
use Rattle.memory_table.specs.Ring.{Ring}
use Rattle.memory_table.specs.Order.{next_of, prev_of}
use Rattle.utf8.specs.Rfc3629.{between}
use Rattle.memory_counting.specs.Counts.{indicator, sum_to}

-- the span of row i
abbrev pub start_of : List ℕ → ℕ → ℕ
start_of t i = (row_at t i).start

abbrev pub end_of : List ℕ → ℕ → ℕ
end_of t i = (row_at t i).end

-- the spans of rows 1, 2, ..
abbrev pub chunk_starts_of : List ℕ → ℕ → ℕ
chunk_starts_of t k = start_of t (k + 1)

abbrev pub ends_of : List ℕ → ℕ → ℕ
ends_of t k = end_of t (k + 1)

-- n spans, from s k up to but without e k: none is empty, each ends inside, and each of len bytes is in exactly one
pub record Tiled (s e : ℕ → ℕ) (n len : ℕ) : Type 0 where
  pub filled : (k : ℕ) → k < n → s k < e k
  pub inside : (k : ℕ) → k < n → e k ≤ len
  pub cover : (b : ℕ) → b < len → sum_to (λ k. indicator (s k) (e k) b) n ≡ 1

-- the one span of an empty source
pub record Empty (t : List ℕ) (n : ℕ) : Type 0 where
  pub single : n ≡ 1
  pub start : start_of t 1 ≡ 0
  pub end : end_of t 1 ≡ 0

-- the spans of rows 1 to n over a source of len bytes
pub record Spans (t : List ℕ) (n len : ℕ) : Type 0 where
  pub empty : len ≡ 0 → Empty t n
  pub full : 0 < len → Tiled (chunk_starts_of t) (ends_of t) n len

-- both ends of a span stand between characters; those of the spans of rows 1 to n do
pub record Edged (source : List ℕ) (a e : ℕ) : Type 0 where
  pub start : between source a ≡ true
  pub end : between source e ≡ true

abbrev pub Edges : List ℕ → List ℕ → ℕ → Type 0
Edges source t n = (k : ℕ) → k < n → Edged source (chunk_starts_of t k) (ends_of t k)

-- the chunks 1 to n stand in one list, linked both ways, and their spans cover the source, with ends between characters
pub record Listed (source t : List ℕ) (n : ℕ) : Type 0 where
  pub ring : Ring (next_of t) (prev_of t) n
  pub spans : Spans t n (length source)
  pub edges : Edges source t n
