-- Spans: which bytes they cover, that they cover the source once, and what keeps that.
use Rattle.std.specs.Prelude.{ℕ, ◌≤◌, ◌<◌, ◌≡◌, Bool, List, [], ◌∷◌, length}
use Rattle.utf8.specs.Chars.{All}
use Rattle.model.specs.Text.{Text, sum}
use Rattle.model.specs.Chunk.{Texts, Chunk, chunk_from, start_of, end_of}
use Rattle.model.specs.WellFormed.{covers}

-- ── a chunk's bytes ──
abbrev pub Proper : Chunk → Type 0
Proper c = start_of c < end_of c

-- ── the spans of a desk over a source of n bytes that is not empty ──
pub record Tiling (n : ℕ) (cs : List Chunk) : Type 0 where
  pub proper : All Proper cs
  pub within : All (λ c. end_of c ≤ n) cs
  pub exact : (x : ℕ) → x < n → sum (covers x) cs ≡ 1

-- ── a well-formed desk's spans: a tiling, or the one chunk of an empty source ──
pub data Cover : Text → List Chunk → Type 0 where
  empty : (frozen : Bool) (t : Texts) → Cover [] (chunk_from 0 0 frozen t ∷ [])
  tiled : {source : Text} {cs : List Chunk} → 0 < length source → Tiling (length source) cs → Cover source cs
