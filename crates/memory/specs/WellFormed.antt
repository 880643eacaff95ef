-- Document 01: "A desk is *well formed* exactly if its source and texts are UTF-8, it keeps these limits, its spans cover the source once with ends between
-- characters and no empty span (but one span 0 to 0 for an empty source), one list, linked both ways, holds every chunk once, no piece stands in two lists or twice
-- in one, every text lies inside the store, and no store byte belongs to two texts."
-- A word that means nothing is not looked at: the first row of an empty piece list, `text_n` beside NONE, row 0's end and replacement, spare words, rows past the count.
use Rattle.std.specs.Prelude.{ℕ, ◌+◌, ◌-◌, ◌*◌, ◌/◌, ◌%◌, ◌≤◌, ◌<◌, ◌≡◌, ◌&&◌, cond, List, ltb, leb, eqb, length}
use Rattle.memory_layout.specs.Layout.{ROW, PIECE, CHUNKS_LEN, CHUNKS_LEAST, PIECE_ROOM, PIECES_LEN, STORE_LEN, NONE}
use Rattle.utf8.specs.Chars.{All}
use Rattle.memory_table.specs.Order.{Entry, entry_at, entries, order, count_of, Linked}
use Rattle.model.specs.Text.{sum}
use Rattle.model.specs.Limits.{Limits, full}
use Rattle.model.specs.WellFormed as model
use Rattle.memory.specs.Layout.{Place, piece_at, tabulate, magic_string_of}

-- the limits of a desk in tables of these lengths: a chunk for each row but the first, a piece for each two rows, a byte for each of the store
abbrev pub limits_by : ℕ → ℕ → ℕ → Limits
limits_by c p b = record { most_source = full.most_source; most_chunks = c; most_pieces = p; most_bytes = b }

abbrev pub limits_of : List ℕ → List ℕ → List ℕ → Limits
limits_of t p s = limits_by (length t / ROW - 1) (length p / PIECE_ROOM) (length s)

-- whole rows, one chunk's at least, and nothing longer than the full sizes
pub record Sized (t p s : List ℕ) : Type 0 where
  pub whole_chunks : length t % ROW ≡ 0
  pub whole_pieces : length p % PIECE ≡ 0
  pub some : CHUNKS_LEAST ≤ length t
  pub chunks : length t ≤ CHUNKS_LEN
  pub pieces : length p ≤ PIECES_LEN
  pub store : length s ≤ STORE_LEN

-- the full sizes, which exported calls take
pub record Full (t p s : List ℕ) : Type 0 where
  pub chunks : length t ≡ CHUNKS_LEN
  pub pieces : length p ≡ PIECES_LEN
  pub store : length s ≡ STORE_LEN

-- tables as long as others
pub record Lengths (t p s t' p' s' : List ℕ) : Type 0 where
  pub chunks : length t' ≡ length t
  pub pieces : length p' ≡ length p
  pub store : length s' ≡ length s

-- ── "every text lies inside the store", and what names it inside the tables ──
abbrev pub Inside : List ℕ → Place → Type 0
Inside s r = r.0 + r.1 ≤ length s

pub record PieceIn (p s : List ℕ) (j : ℕ) : Type 0 where
  pub row : j * PIECE + PIECE ≤ length p
  pub text : Inside s (piece_at p j)

unfoldable pub RunIn : List ℕ → List ℕ → Place → Type 0
RunIn p s r = (k : ℕ) → k < r.1 → PieceIn p s (r.0 + k)

unfoldable pub ReplacementIn : List ℕ → Place → Type 0
ReplacementIn s r = (r.0 ≡ NONE → ⊥) → Inside s r

pub record RunsIn (p s : List ℕ) (e : Entry) : Type 0 where
  pub intro : RunIn p s e.intro
  pub outro : RunIn p s e.outro

pub record EntryIn (p s : List ℕ) (e : Entry) : Type 0 where
  pub runs : RunsIn p s e
  pub replacement : ReplacementIn s e.text

-- "one list, linked both ways", and its texts can be read
pub record Readable (t p s : List ℕ) : Type 0 where
  pub linked : Linked t
  pub desk : RunsIn p s (entry_at t 0)
  pub chunks : All (EntryIn p s) (entries t)

-- ── "holds every chunk once" ──
-- how often a number stands in a list
unfoldable pub times : ℕ → List ℕ → ℕ
times i l = sum (λ x. cond (eqb x i) 1 0) l

abbrev pub HoldsEach : List ℕ → Type 0
HoldsEach t = (i : ℕ) → 0 < i → i ≤ count_of t → times i (order t) ≡ 1

-- ── "no piece stands in two lists or twice in one .. and no store byte belongs to two texts" ──
-- 1 if i is at a place, else 0
unfoldable pub among : Place → ℕ → ℕ
among r i = cond (leb r.0 i && ltb i (r.0 + r.1)) 1 0

-- how often row j of the piece table stands in a row's two lists
abbrev pub piece_uses : ℕ → Entry → ℕ
piece_uses j e = among e.intro j + among e.outro j

-- how many texts of a run have the byte b, and how many of a row
unfoldable pub run_uses : List ℕ → ℕ → Place → ℕ
run_uses p b r = sum (λ x. among x b) (tabulate (λ k. piece_at p (r.0 + k)) r.1)

unfoldable pub replacement_uses : ℕ → Place → ℕ
replacement_uses b r = cond (eqb r.0 NONE) 0 (among r b)

abbrev pub list_uses : List ℕ → ℕ → Entry → ℕ
list_uses p b e = run_uses p b e.intro + run_uses p b e.outro

abbrev pub byte_uses : List ℕ → ℕ → Entry → ℕ
byte_uses p b e = list_uses p b e + replacement_uses b e.text

pub record Disjoint (t p : List ℕ) : Type 0 where
  pub pieces : (j : ℕ) → piece_uses j (entry_at t 0) + sum (piece_uses j) (entries t) ≤ 1
  pub bytes : (b : ℕ) → list_uses p b (entry_at t 0) + sum (byte_uses p b) (entries t) ≤ 1

-- ── the whole sentence ──
pub record WellFormed (source t p s : List ℕ) : Type 0 where
  pub sized : Sized t p s
  pub readable : Readable t p s
  pub each : HoldsEach t
  pub disjoint : Disjoint t p
  pub desk : model.WellFormed (limits_of t p s) (magic_string_of source t p s)

-- what an exported call takes
pub record Taken (source t p s : List ℕ) : Type 0 where
  pub full : Full t p s
  pub well_formed : WellFormed source t p s
