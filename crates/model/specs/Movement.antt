-- movement.rs: `remove` and `relocate`. `snip` is left out.
use Rattle.std.specs.Prelude.{ℕ, zero, suc, Bool, true, false, ◌&&◌, cond, List, [], ◌∷◌, ◌++◌, ltb, leb, eqb, length}
use Rattle.std.proofs.Math.Option.{Option, none, some}
use Rattle.model.specs.Chunk.{Chunk, Texts, start_of, end_of, edit}
use Rattle.model.specs.MagicString.{MagicString, Result, ok, err, and_then, with_chunks, by_start, at_start, split_at}
use Rattle.model.specs.Frozen.{Guard, unless_guarded}

-- The loop of `remove`, and of `reset`: the chunk that starts at `at` is changed, then the one that starts at its end, by position, while `end` lies behind. The first
-- argument bounds the turns: no chunk is met twice, except that on an empty source the Rust meets its one chunk again and again, where document 01 changes it once
abbrev pub change_by_position : ℕ → (Texts → Texts) → ℕ → ℕ → List Chunk → List Chunk
change_by_position zero f at end cs = cs
change_by_position (suc k) f at end cs =
    elim (by_start at cs) [
      | none ↦ cs
      | some c ↦ elim (ltb (end_of c) end) [
        | true ↦ change_by_position k f (end_of c) end (at_start at f cs)
        | false ↦ at_start at f cs
      ]
    ]

-- two cuts, document 02's 20 where the range is refused, then the loop
unfoldable pub change_range : Guard → (Texts → Texts) → ℕ → ℕ → MagicString → Result
change_range g f start end m =
    and_then (split_at start m) λ m. and_then (split_at end m) λ m.
    unless_guarded g start end m (ok (with_chunks m (change_by_position (length m.chunks) f start end m.chunks)))

-- `remove`: an end past the source is accepted
unfoldable pub remove : Guard → ℕ → ℕ → MagicString → Result
remove g start end m =
    cond (eqb start end) (ok m)
    (cond (ltb end start) (err 4 m)
    (change_range g (edit [] true) start end m))

-- ── `relocate` ──
-- the list taken apart: what stands before the range, the range, what stands behind it; or the range does not stand together
pub data Segment : Type 0 where
  together : List Chunk → List Chunk → List Chunk → Segment
  apart : Segment

abbrev pub into_range : Chunk → Segment → Segment
into_range c (together before range behind) = together before (c ∷ range) behind
into_range c apart = apart

abbrev pub before_range : Chunk → Segment → Segment
before_range c (together before range behind) = together (c ∷ before) range behind
before_range c apart = apart

-- whether the list begins with the chunk that starts at a position
abbrev pub begins_at : ℕ → List Chunk → Bool
begins_at at [] = false
begins_at at (c ∷ cs) = eqb (start_of c) at

-- the walk in original order: each next chunk by position must also be the next of the list, up to the one that ends at `end`
abbrev pub range_from : ℕ → List Chunk → Segment
range_from end [] = apart  -- cannot arise: the walk goes on only where a next chunk begins
range_from end (c ∷ cs) =
    let r : Segment = into_range c (range_from end cs) in
    cond (eqb (end_of c) end) (together [] (c ∷ []) cs) (cond (begins_at (end_of c) cs) r apart)

-- from the chunk that starts at `start`
abbrev pub segment : ℕ → ℕ → List Chunk → Segment
segment start end [] = apart  -- cannot arise: after the cuts a chunk starts at `start`
segment start end (c ∷ cs) =
    let r : Segment = before_range c (segment start end cs) in
    cond (eqb (start_of c) start) (range_from end (c ∷ cs)) r

-- the range put before the chunk that starts at `to`, or last if there is none
abbrev pub insert_before : ℕ → List Chunk → List Chunk → List Chunk
insert_before to range [] = range
insert_before to range (c ∷ cs) =
    let r : List Chunk = insert_before to range cs in
    cond (eqb (start_of c) to) (range ++ (c ∷ cs)) (c ∷ r)

-- `new_right_idx == old_right_idx`: the range already stands before the chunk that starts at `to`, or last and there is none
abbrev pub stands_there : Option Chunk → List Chunk → Bool
stands_there none [] = true
stands_there none (c ∷ cs) = false
stands_there (some d) [] = false
stands_there (some d) (c ∷ cs) = eqb (start_of c) (start_of d)

abbrev pub move_segment : ℕ → MagicString → Segment → Result
move_segment to m apart = err 9 m
move_segment to m (together before range behind) =
    cond (stands_there (by_start to m.chunks) behind) (ok m)
    (ok (with_chunks m (insert_before to range (before ++ behind))))

-- `relocate`: 8, zero width is a no-op, 4, 10, three cuts, 9, then the move
unfoldable pub relocate : ℕ → ℕ → ℕ → MagicString → Result
relocate start end to m =
    cond (leb start to && leb to end) (err 8 m)
    (cond (eqb start end) (ok m)
    (cond (ltb end start) (err 4 m)
    (cond (ltb (length m.source) end) (err 10 m)
    (and_then (split_at start m) λ m. and_then (split_at end m) λ m. and_then (split_at to m) λ m.
    move_segment to m (segment start end m.chunks)))))
