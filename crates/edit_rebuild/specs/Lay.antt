-- Chunks laid into other tables one after the other, from a byte of the store and a row of the piece table on: what a rebuild shows of each, and of all so far.
use Rattle.std.specs.Prelude.{◌≡◌, List, [], ◌∷◌, ◌++◌, map, ℕ, zero, suc, ◌+◌, ◌*◌, ◌-◌, ◌≤◌, ◌<◌, min, length}
use Rattle.utf8.specs.Chars.{All}
use Rattle.memory_table.specs.declared.Row.{Row}
use Rattle.memory_table.specs.Ring.{Edge, follow}
use Rattle.memory_table.specs.Order.{Entry, entry_of, entry_at, order, next_of, prev_of, count_of}
use Rattle.model.specs.Text.{sum}
use Rattle.model.specs.Chunk.{Chunk}
use Rattle.model.specs.Limits.{chunk_pieces, chunk_bytes, replacement_bytes}
use Rattle.memory_layout.specs.Layout.{NONE}
use Rattle.memory.specs.Layout.{Place, bytes_at, piece_at, replacement_of, chunk_of}
use Rattle.memory.specs.WellFormed.{piece_uses, byte_uses, replacement_uses}
use Rattle.memory_texts.specs.Own.{own_of}
use Rattle.memory_used.specs.Below.{EntryBelow}

-- what lies below a row and a byte reads as before
pub record Grown (P S : List ℕ) (byte row : ℕ) (P' S' : List ℕ) (byte' row' : ℕ) : Type 0 where
  pub pieces : (j : ℕ) → j < row → piece_at P' j ≡ piece_at P j
  pub store : (r : Place) → r.0 + r.1 ≤ byte → bytes_at S' r ≡ bytes_at S r
  pub rows_grow : row ≤ row'
  pub bytes_grow : byte ≤ byte'

-- a replacement r of s is laid as r' into S, from a byte on
pub record LaidText (s : List ℕ) (r r' : Place) (S : List ℕ) (byte : ℕ) (S' : List ℕ) (byte' : ℕ) : Type 0 where
  pub replacement : replacement_of S' r' ≡ replacement_of s r
  pub below : (r'.0 ≡ NONE → ⊥) → r'.0 + r'.1 ≤ byte'
  pub kept : (x : Place) → x.0 + x.1 ≤ byte → bytes_at S' x ≡ bytes_at S x
  pub grow : byte ≤ byte'
  pub bytes : (b : ℕ) → min 1 (byte - b) + replacement_uses b r' ≡ min 1 (byte' - b)
  pub byte_is : byte' ≡ byte + replacement_bytes (replacement_of s r)

-- e of the tables p and s is laid as e' into P and S; each row and byte up to the new places belongs to one
pub record LaidEntry (p s : List ℕ) (e e' : Entry) (P S : List ℕ) (byte row : ℕ) (P' S' : List ℕ) (byte' row' : ℕ) : Type 0 where
  pub chunk : chunk_of P' S' e' ≡ chunk_of p s e
  pub below : EntryBelow P' byte' row' e'
  pub grown : Grown P S byte row P' S' byte' row'
  pub rows : (j : ℕ) → min 1 (row - j) + piece_uses j e' ≡ min 1 (row' - j)
  pub bytes : (b : ℕ) → min 1 (byte - b) + byte_uses P' b e' ≡ min 1 (byte' - b)
  pub row_is : row' ≡ row + chunk_pieces (chunk_of p s e)
  pub byte_is : byte' ≡ byte + chunk_bytes (chunk_of p s e)

-- there is room for it
pub record RoomEntry (p s : List ℕ) (e : Entry) (P S : List ℕ) (byte row : ℕ) : Type 0 where
  pub rows_in : (row + chunk_pieces (chunk_of p s e)) * 2 ≤ length P
  pub bytes_in : byte + chunk_bytes (chunk_of p s e) ≤ length S
  pub rows_narrow : length P < 4294967295
  pub narrow : length S < 4294967295

-- the entries us of p and s stand as vs in P and S; each row below row, and each byte below byte, belongs to one
pub record Laying (p s : List ℕ) (us vs : List Entry) (P S : List ℕ) (byte row : ℕ) : Type 0 where
  pub chunks : map (chunk_of P S) vs ≡ map (chunk_of p s) us
  pub below : All (EntryBelow P byte row) vs
  pub rows : (j : ℕ) → sum (piece_uses j) vs ≡ min 1 (row - j)
  pub bytes : (b : ℕ) → sum (byte_uses P b) vs ≡ min 1 (byte - b)

-- the desk's own row of a table as an entry
abbrev pub own : List ℕ → Entry
own t = record { start = 0; end = 0; frozen = (entry_at t 0).frozen; intro = (entry_at t 0).intro; outro = (entry_at t 0).outro; text = (NONE, 0) }

-- 1, 2, .., n
abbrev pub up_to : ℕ → List ℕ
up_to zero = []
up_to (suc n) = up_to n ++ (suc n ∷ [])

-- the chunks that are left, from row cur on
abbrev pub left : List ℕ → List ℕ → List ℕ → ℕ → ℕ → List Chunk
left t p s m cur = map (chunk_of p s) (map (entry_at t) (follow (next_of t) m cur))

-- what row k leads to with m more to come
abbrev pub next_for : ℕ → ℕ → ℕ
next_for zero k = 0
next_for (suc m) k = suc k

-- k chunks of t are laid into C, P and S; m are left, from row cur on
pub record LayAt (t p s : List ℕ) (k m cur byte row : ℕ) (C P S : List ℕ) : Type 0 where
  pub done : List ℕ
  pub place : order t ≡ done ++ follow (next_of t) m cur
  pub laying : Laying p s (own t ∷ map (entry_at t) done) (own C ∷ map (entry_at C) (up_to k)) P S byte row
  pub fwd : (i : ℕ) → i < k → Edge (next_of C) (prev_of C) i (suc i)
  pub tip : next_of C k ≡ next_for m k
  pub back : prev_of C 0 ≡ k + m
  pub count : count_of C ≡ k + m
  pub rows_left : (row + sum chunk_pieces (left t p s m cur)) * 2 ≤ length P
  pub bytes_left : byte + sum chunk_bytes (left t p s m cur) ≤ length S

-- a laid row r in its place k + 1 of n
pub record SeqRow (r x : Row) (k n : ℕ) : Type 0 where
  pub same : entry_of x ≡ entry_of r
  pub prev : x.prev ≡ k
  pub next : x.next ≡ next_for (n - (k + 1)) (k + 1)

-- the desk's own row, with n chunks
pub record OwnRow (r x : Row) (n : ℕ) : Type 0 where
  pub runs : own_of x ≡ own_of r
  pub count : x.start ≡ n
  pub prev : x.prev ≡ n
  pub next : x.next ≡ next_for n 0
