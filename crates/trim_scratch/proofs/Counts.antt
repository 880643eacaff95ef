-- What the trims leave of a desk's counts: as many chunks and no more pieces. And what a desk shows of its source is at most the source, which bounds what a trim writes.
use mathlib.Core.Path.{◌≡◌, refl, ◌∙◌}
use mathlib.Core.Bool.{Bool, true, false}
use mathlib.Core.List.{List, [], ◌∷◌, reverse}
use mathlib.Core.Option.{Option, none, some}
use Prim.Native.Nat.{ℕ, ◌-◌, ◌≤◌, ◌<◌}
use native.Mathlib.Omega.{arith}
use lib.ListN.{length, length-reverse}
use Rattle.model.specs.Text.{Text, is_nil, sum}
use Rattle.model.specs.Chunk.{Chunk, start_of, end_of}
use Rattle.model.specs.MagicString.{MagicString}
use Rattle.model.specs.Limits.{piece_count}
use Rattle.model.specs.WellFormed.{covers, Formed}
use Rattle.model.specs.Trim.{trim_deque_start, trim_deque_end, Trimmed, trim_chunk_start, trim_chunk_end, trim_chunks, trim_start, trim_end}
use Rattle.model.proofs.Lists.{all_of, all_map, sum_same}
use Rattle.memory_counting.specs.Counts.{sum_to, indicator}
use Rattle.memory_counting.proofs.Sums.{sum_ones, sum_indicator}
use Rattle.memory_counting.proofs.Lists.{sum_swap}
use Rattle.model_preservation.proofs.Lists.{of_cond, sum_le}
use Rattle.model_preservation.proofs.Spans.{Inside, spans_inside, covered_once}
use Rattle.trim_chunk.specs.Plain.{plain_or, plain, plain_bytes}
use Rattle.trim_steps.specs.Model.{trim_side, trim_sides}
use Rattle.trim_steps.proofs.Model.{side_pieces}

-- ---- the chunks

chunks_as_many : (f : Chunk → Trimmed) (cs : List Chunk) → length (trim_chunks f cs) ≡ length cs
chunks_as_many f [] = refl
chunks_as_many f (c ∷ cs) =
    of_cond (λ (l : List Chunk). length ((f c).chunk ∷ l) ≡ length (c ∷ cs)) (f c).goes_on (λ _. omega (arith, chunks_as_many f cs)) (λ _. refl)

-- ---- the desk

module _ (p : ℕ) (m : MagicString) where
  start_as_many : length (trim_start p m).chunks ≡ length m.chunks
  unfolding trim_start
  start_as_many =
      of_cond (λ (x : MagicString). length x.chunks ≡ length m.chunks) (is_nil (trim_deque_start p m.intro))
      (λ _. chunks_as_many (trim_chunk_start p m.source) m.chunks) (λ _. refl)

  end_as_many : length (trim_end p m).chunks ≡ length m.chunks
  unfolding trim_end
  end_as_many =
      let f = trim_chunk_end p m.source in
      of_cond (λ (x : MagicString). length x.chunks ≡ length m.chunks) (is_nil (trim_deque_end p m.outro))
      (λ _. length-reverse (trim_chunks f (reverse m.chunks)) ∙ chunks_as_many f (reverse m.chunks) ∙ length-reverse m.chunks) (λ _. refl)

side_as_many : (front : Bool) (p : ℕ) (m : MagicString) → length (trim_side front p m).chunks ≡ length m.chunks
side_as_many true p m = start_as_many p m
side_as_many false p m = end_as_many p m

-- ---- one side or both

pub trim_sides_pieces : (both front : Bool) (p : ℕ) (m : MagicString) → piece_count (trim_sides both front p m) ≤ piece_count m
trim_sides_pieces true front p m = omega (arith, side_pieces false p (trim_side front p m), side_pieces front p m)
trim_sides_pieces false front p m = side_pieces front p m

pub trim_sides_chunks : (both front : Bool) (p : ℕ) (m : MagicString) → length (trim_sides both front p m).chunks ≡ length m.chunks
trim_sides_chunks true front p m = end_as_many p (trim_side front p m) ∙ side_as_many front p m
trim_sides_chunks false front p m = side_as_many front p m

-- ---- the spans cover the source once, so what the desk shows of it is at most the source

width : Chunk → ℕ
width c = end_of c - start_of c

or_le : (e : Option Text) (n : ℕ) → plain_or e n ≤ n
or_le none n = omega arith
or_le (some t) n = omega arith

plain_width : (c : Chunk) → plain c ≤ width c
unfolding width
plain_width c = or_le c.texts.edited_content (end_of c - start_of c)

-- how often a chunk's span has the byte x
has : Chunk → ℕ → ℕ
has c x = indicator (start_of c) (end_of c) x

has_covers : (x : ℕ) (c : Chunk) → has c x ≡ covers x c
unfolding has covers indicator
has_covers x c = refl

width_counts : (source : Text) (c : Chunk) → Inside source c → width c ≡ sum_to (has c) (length source)
unfolding width has
width_counts source c h = omega (arith, sum_indicator (start_of c) (end_of c) (length source) h.ordered, h.ordered, h.inside)

pub plain_small : (m : MagicString) → Formed m → plain_bytes m ≤ length m.source
plain_small m h =
    let n = length m.source in
    let cs = m.chunks in
    let once : (x : ℕ) → x < n → sum (λ c. has c x) cs ≤ 1 =
    λ x l. omega (arith, sum_same (λ c. has c x) (covers x) (all_of (has_covers x) cs), covered_once m.source cs h.covered x l) in
    omega (
      arith,
      sum_le width plain plain_width cs,
      sum_same width (λ c. sum_to (has c) n) (all_map (width_counts m.source) (spans_inside m.source cs h.covered)),
      sum_swap has cs n,
      sum_ones (λ x. sum (λ c. has c x) cs) n once,
    )
