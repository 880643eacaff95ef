-- Document 02, L8: frozen parts. Which ranges are refused, and the call that sets the mark. The Rust has no marks.
use Rattle.std.specs.Prelude.{ℕ, Bool, false, ◌&&◌, ◌||◌, cond, map, ltb, leb, eqb, length}
use Rattle.model.specs.Text.{any}
use Rattle.model.specs.Chunk.{Chunk, start_of}
use Rattle.model.specs.MagicString.{MagicString, Result, ok, err, and_then, with_chunks, split_at}

-- ── refusals ──
-- the chunks of a range, once it is cut at both ends: they start inside it
abbrev pub starts_within : ℕ → ℕ → Chunk → Bool
starts_within start end c = leb start (start_of c) && ltb (start_of c) end

-- "Removal, replacement and reset refuse a range with a marked chunk"
unfoldable pub has_frozen : ℕ → ℕ → MagicString → Bool
has_frozen start end m = any (λ c. starts_within start end c && c.frozen) m.chunks

-- "Trim and indent refuse any desk with one"
unfoldable pub any_frozen : MagicString → Bool
any_frozen m = any (λ c. c.frozen) m.chunks

-- Which ranges are refused is a parameter of the Rust's steps: the Rust refuses none
abbrev pub Guard : Type 0
Guard = ℕ → ℕ → MagicString → Bool

abbrev pub unguarded : Guard
unguarded start end m = false

-- "20, after the cuts and, in update_with, after 10; cuts made stay, no chunk is changed further"
abbrev pub unless_guarded : Guard → ℕ → ℕ → MagicString → Result → Result
unless_guarded refuses start end m r = cond (refuses start end m) (err 20 m) r

-- ── freezing ──
-- the mark set on a chunk of the range; what is marked stays so
abbrev pub freeze_chunk : ℕ → ℕ → Chunk → Chunk
freeze_chunk start end c = record { span = c.span; frozen = starts_within start end c || c.frozen; texts = c.texts }

-- two cuts, "then sets the mark on its chunks"
unfoldable pub freeze_range : ℕ → ℕ → MagicString → Result
freeze_range start end m =
    and_then (split_at start m) λ m. and_then (split_at end m) λ m.
    ok (with_chunks m (map (freeze_chunk start end) m.chunks))

-- "Freezing a range follows reset's rules and order up to its cuts": zero width is a no-op, 4, 10, cuts
unfoldable pub freeze : ℕ → ℕ → MagicString → Result
freeze start end m =
    cond (eqb start end) (ok m)
    (cond (ltb end start) (err 4 m)
    (cond (ltb (length m.source) end) (err 10 m)
    (freeze_range start end m)))
