-- Laws of what `Model` in specs/ defines.
use mathlib.Core.Path.{◌≡◌, ◌∙◌}
use mathlib.Core.Bool.{Bool, true, false}
use mathlib.Core.List.{List, [], ◌∷◌, reverse}
use Prim.Native.Nat.{ℕ, ◌≤◌}
use native.Mathlib.Omega.{arith}
use lib.Dec.{eqb}
use lib.ListN.{length, length-reverse}
use Rattle.model.specs.Text.{Text, is_nil, sum, all}
use Rattle.model.specs.Chunk.{Chunk, content}
use Rattle.model.specs.MagicString.{MagicString, with_chunks, with_intro, with_outro}
use Rattle.model.specs.Limits.{chunk_pieces, piece_count}
use Rattle.model.specs.Trim.{trim_start_pattern, trim_end_pattern, trim_deque_start, trim_reversed, trim_deque_end, Trimmed, trim_chunk_start, trim_chunk_end, trim_chunks}
use Rattle.model.specs.Trim.{trim_start, trim_end}
use Rattle.model_preservation.proofs.Lists.{of_cond, of_either}
use Rattle.model_preservation.proofs.Desk.{FormedOf}
use Rattle.model_preservation.proofs.Trim.{trim_start_keeps, trim_end_keeps}
use Rattle.trim_text.specs.Sides.{blank}
use Rattle.trim_run.specs.Deque.{trim_deque}
use Rattle.trim_run.proofs.Deque.{deque_nil, all_nil_deque}
use Rattle.trim_chunk.specs.Sides.{trim_chunk}
use Rattle.trim_chunks.specs.Sums.{way}
use Rattle.trim_chunks.proofs.Sums.{sum_reverse}
use Rattle.trim_steps.specs.Model.{trim_side}

-- the head or the tail
abbrev pub near_pieces : Bool → MagicString → List Text
near_pieces true m = m.intro
near_pieces false m = m.outro

-- the desk with another head or tail, and other chunks
abbrev pub with_near : Bool → MagicString → List Text → List Chunk → MagicString
with_near true m l cs = with_chunks (with_intro m l) cs
with_near false m l cs = with_chunks (with_outro m l) cs

-- something is left of the head or the tail
pub side_stops : (front : Bool) (p : ℕ) (m : MagicString) → all (blank p) (near_pieces front m) ≡ false
    → trim_side front p m ≡ with_near front m (trim_deque front p (near_pieces front m)) m.chunks
unfolding trim_start trim_end
side_stops true p m h = rw (deque_nil true p m.intro ∙ h)
side_stops false p m h = rw (deque_nil false p m.outro ∙ h)

-- nothing is left of it
pub side_goes_on : (front : Bool) (p : ℕ) (m : MagicString) → all (blank p) (near_pieces front m) ≡ true
    → trim_side front p m ≡ with_near front m [] (way front (trim_chunks (trim_chunk front p m.source) (way front m.chunks)))
unfolding trim_start trim_end
side_goes_on true p m h = rw (deque_nil true p m.intro ∙ h, all_nil_deque true p m.intro h)
side_goes_on false p m h = rw (deque_nil false p m.outro ∙ h, all_nil_deque false p m.outro h)

-- ---- a trimmed desk is formed

pub side_keeps : (front : Bool) (source : Text) (p : ℕ) (m : MagicString) → FormedOf source m → FormedOf source (trim_side front p m)
side_keeps true source p m h = trim_start_keeps source p m h
side_keeps false source p m h = trim_end_keeps source p m h

-- ---- it has no more pieces

module _ (p : ℕ) where
  start_le : (l : List Text) → length (trim_deque_start p l) ≤ length l
  start_le [] = omega arith
  start_le (s ∷ l) = of_cond (λ (x : List Text). length x ≤ length (s ∷ l)) (is_nil (trim_start_pattern p s)) (λ _. omega (arith, start_le l)) (λ _. omega arith)

  reversed_le : (l : List Text) → length (trim_reversed p l) ≤ length l
  reversed_le [] = omega arith
  reversed_le (s ∷ l) = of_cond (λ (x : List Text). length x ≤ length (s ∷ l)) (is_nil (trim_end_pattern p s)) (λ _. omega (arith, reversed_le l)) (λ _. omega arith)

  end_le : (l : List Text) → length (trim_deque_end p l) ≤ length l
  end_le l = omega (arith, length-reverse (trim_reversed p (reverse l)), reversed_le (reverse l), length-reverse l)

  module _ (source : Text) (c : Chunk) where
    Fewer : Trimmed → Type 0
    Fewer t = chunk_pieces t.chunk ≤ chunk_pieces c

    chunk_start_le : chunk_pieces (trim_chunk_start p source c).chunk ≤ chunk_pieces c
    unfolding trim_chunk_start Fewer
    chunk_start_le =
        let s : Text = content source c in
        let t : Text = trim_start_pattern p s in
        let a = start_le c.texts.intro in
        let b = start_le c.texts.outro in
        of_either Fewer (is_nil (trim_deque_start p c.texts.intro))
        (of_either Fewer (is_nil s) (omega arith) (of_either Fewer (eqb (length t) (length s)) (omega arith) (of_either Fewer (is_nil t) (omega arith) (omega arith))))
        (omega arith)

    chunk_end_le : chunk_pieces (trim_chunk_end p source c).chunk ≤ chunk_pieces c
    unfolding trim_chunk_end Fewer
    chunk_end_le =
        let s : Text = content source c in
        let t : Text = trim_end_pattern p s in
        let a = end_le c.texts.intro in
        let b = end_le c.texts.outro in
        of_either Fewer (is_nil (trim_deque_end p c.texts.outro))
        (of_either Fewer (is_nil s) (omega arith) (of_either Fewer (eqb (length t) (length s)) (omega arith) (of_either Fewer (is_nil t) (omega arith) (omega arith))))
        (omega arith)

-- a weight that no chunk gains, summed over the chunks
chunks_le : (w : Chunk → ℕ) (f : Chunk → Trimmed) → ((c : Chunk) → w (f c).chunk ≤ w c) → (cs : List Chunk) → sum w (trim_chunks f cs) ≤ sum w cs
chunks_le w f g [] = omega arith
chunks_le w f g (c ∷ cs) =
    of_cond (λ (l : List Chunk). sum w ((f c).chunk ∷ l) ≤ sum w (c ∷ cs)) (f c).goes_on (λ _. omega (arith, g c, chunks_le w f g cs)) (λ _. omega (arith, g c))

pub side_pieces : (front : Bool) (p : ℕ) (m : MagicString) → piece_count (trim_side front p m) ≤ piece_count m
unfolding trim_start trim_end
side_pieces true p m =
    let a = start_le p m.intro in
    of_cond (λ (x : MagicString). piece_count x ≤ piece_count m) (is_nil (trim_deque_start p m.intro))
    (λ _. omega (arith, a, chunks_le chunk_pieces (trim_chunk_start p m.source) (chunk_start_le p m.source) m.chunks))
    (λ _. omega (arith, a))
side_pieces false p m =
    let a = end_le p m.outro in
    let f = trim_chunk_end p m.source in
    of_cond (λ (x : MagicString). piece_count x ≤ piece_count m) (is_nil (trim_deque_end p m.outro))
    (λ _. omega (
      arith,
      a,
      sum_reverse chunk_pieces (trim_chunks f (reverse m.chunks)),
      chunks_le chunk_pieces f (chunk_end_le p m.source) (reverse m.chunks),
      sum_reverse chunk_pieces m.chunks,
    ))
    (λ _. omega (arith, a))
