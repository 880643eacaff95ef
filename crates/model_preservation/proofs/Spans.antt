-- What "its spans cover the source once" (document 01) gives of each chunk, and which changes of the chunks keep it: other texts on the same spans, another order, a cut.
use Prim.Native.Nat.{ℕ, ◌+◌, ◌≤◌, ◌<◌}
use native.Mathlib.Omega.{arith}
use mathlib.Core.Path.{◌≡◌, refl, ap, ◌∙◌}
use mathlib.Core.Bool.{true}
use mathlib.Core.List.{List, [], ◌∷◌, map, head-eq_of_cons-eq, tail-eq_of_cons-eq, nil≢cons, cons≢nil}
use lib.Dec.{ltb}
use lib.ListN.{length}
use borrow.Author.Tests.{ltb-true}
use Rattle.utf8.specs.Rfc3629.{between}
use Rattle.utf8.proofs.Boundaries.{between_zero}
use Rattle.utf8.specs.Chars.{All, nil, cons}
use Rattle.utf8.proofs.Sequences.{both}
use Rattle.model.specs.Text.{Text, sum}
use Rattle.model.specs.Chunk.{Chunk, Span, new_chunk, start_of, end_of, contains, first_half, second_half}
use Rattle.model.specs.MagicString.{split_holder}
use Rattle.model.specs.WellFormed.{covers, ProperSpan, Covered}
use Rattle.model.proofs.Lists.{all_map}
use Rattle.model.proofs.Spans.{covers_key, covers_halves}
use Rattle.model_preservation.proofs.Lists.{of_cond, all_key, sum_key}

-- ---- each span, of an empty source too

-- a span inside the source with ends between characters, empty or not
pub record Inside (source : Text) (c : Chunk) : Type 0 where
  pub ordered : start_of c ≤ end_of c
  pub inside : end_of c ≤ length source
  pub start_between : between source (start_of c) ≡ true
  pub end_between : between source (end_of c) ≡ true

proper_inside : (source : Text) (c : Chunk) → ProperSpan source c → Inside source c
proper_inside source c h =
    record { ordered = omega (arith, h.proper); inside = h.inside; start_between = h.start_between; end_between = h.end_between }

inside_key : (source : Text) (c d : Chunk) → d.span ≡ c.span → Inside source c → Inside source d
inside_key source c d e h =
    record { ordered = rw e h.ordered; inside = rw e h.inside; start_between = rw e h.start_between; end_between = rw e h.end_between }

pub spans_inside : (source : Text) (cs : List Chunk) → Covered source cs → All (Inside source) cs
spans_inside [] cs h =
    all_key (λ (c : Chunk). c.span) (Inside []) (inside_key []) (new_chunk 0 0 ∷ []) cs h
    (cons (record { ordered = omega arith; inside = omega arith; start_between = between_zero []; end_between = between_zero [] }) nil)
spans_inside (a ∷ s) cs h = all_map (proper_inside (a ∷ s)) h.spans

-- each byte of the source is in one span
pub covered_once : (source : Text) (cs : List Chunk) → Covered source cs → (x : ℕ) → x < length source → sum (covers x) cs ≡ 1
covered_once [] cs h x l = absurd (omega arith)
covered_once (a ∷ s) cs h x l = h.once x l

-- ---- other texts on the same spans

proper_key : (source : Text) (c d : Chunk) → d.span ≡ c.span → ProperSpan source c → ProperSpan source d
proper_key source c d e h =
    record { proper = rw e h.proper; inside = rw e h.inside; start_between = rw e h.start_between; end_between = rw e h.end_between }

pub same_spans : (source : Text) (cs ds : List Chunk) → map (λ c. c.span) ds ≡ map (λ c. c.span) cs → Covered source cs → Covered source ds
same_spans [] cs ds e h = e ∙ h
same_spans (a ∷ s) cs ds e h =
    record {
      spans = all_key (λ (c : Chunk). c.span) (ProperSpan (a ∷ s)) (proper_key (a ∷ s)) cs ds e h.spans;
      once = λ x l. sum_key (λ (c : Chunk). c.span) (covers x) (covers_key x) cs ds e ∙ h.once x l;
    }

-- ---- another order

-- the same chunks, each as often
pub record Rearranged (cs ds : List Chunk) : Type 1 where
  pub every : (P : Chunk → Type 0) → All P cs → All P ds
  pub total : (f : Chunk → ℕ) → sum f ds ≡ sum f cs

map_one : (z : Span) (cs : List Chunk) → map (λ c. c.span) cs ≡ z ∷ [] → (sum (λ c. 1) cs ≡ 1) × All (λ c. c.span ≡ z) cs
map_one z [] e = absurd (nil≢cons e)
map_one z (c ∷ []) e = (refl, cons (head-eq_of_cons-eq e) nil)
map_one z (c ∷ d ∷ cs) e = absurd (cons≢nil (tail-eq_of_cons-eq e))

one_map : (z : Span) (cs : List Chunk) → sum (λ c. 1) cs ≡ 1 → All (λ c. c.span ≡ z) cs → map (λ c. c.span) cs ≡ z ∷ []
one_map z [] e h = absurd (omega arith)
one_map z (c ∷ []) e (cons h k) = ap (λ (p : Span). p ∷ []) h
one_map z (c ∷ d ∷ cs) e h = absurd (omega arith)

pub rearranged_covered : (source : Text) (cs ds : List Chunk) → Rearranged cs ds → Covered source cs → Covered source ds
rearranged_covered [] cs ds r h =
    let i = map_one _ cs h in
    one_map _ ds (r.total (λ c. 1) ∙ i.0) (r.every _ i.1)
rearranged_covered (a ∷ s) cs ds r h =
    record { spans = r.every (ProperSpan (a ∷ s)) h.spans; once = λ x l. r.total (covers x) ∙ h.once x l }

-- ---- a cut

pub contains_true : (c : Chunk) (p : ℕ) → contains c p ≡ true → (start_of c < p) × (p < end_of c)
unfolding contains
contains_true c p e =
    let h = both (ltb (start_of c) p) (ltb p (end_of c)) e in
    (ltb-true (start_of c) p h.0, ltb-true p (end_of c) h.1)

-- a sum of parts that a chunk's halves share keeps what it is
pub split_sum : (f : Chunk → ℕ) (p : ℕ) → ((c : Chunk) → start_of c < p → p < end_of c → f (first_half p c) + f (second_half p c) ≡ f c)
    → (cs : List Chunk) → sum f (split_holder p cs) ≡ sum f cs
split_sum f p g [] = refl
split_sum f p g (c ∷ cs) =
    of_cond (λ (l : List Chunk). sum f l ≡ f c + sum f cs) (contains c p)
    (λ e. let h = contains_true c p e in omega (arith, g c h.0 h.1))
    (λ e. omega (arith, split_sum f p g cs))

-- what both halves have of a chunk that has it, every chunk has behind the cut
pub split_all : (P : Chunk → Type 0) (p : ℕ) → ((c : Chunk) → start_of c < p → p < end_of c → P c → P (first_half p c) × P (second_half p c))
    → {cs : List Chunk} → All P cs → All P (split_holder p cs)
split_all P p g nil = nil
split_all P p g (cons {x = c} h k) =
    of_cond (All P) (contains c p)
    (λ e. let i = contains_true c p e in let j = g c i.0 i.1 h in cons j.0 (cons j.1 k))
    (λ e. cons h (split_all P p g k))

halves_proper : (source : Text) (p : ℕ) → between source p ≡ true → (c : Chunk) → start_of c < p → p < end_of c
    → ProperSpan source c → ProperSpan source (first_half p c) × ProperSpan source (second_half p c)
halves_proper source p b c h k i = (
  record { proper = h; inside = omega (arith, i.inside); start_between = i.start_between; end_between = b },
  record { proper = k; inside = i.inside; start_between = b; end_between = i.end_between },
)

pub split_covered : (source : Text) (p : ℕ) → p < length source → between source p ≡ true → (cs : List Chunk) → Covered source cs → Covered source (split_holder p cs)
split_covered [] p l b cs h = absurd (omega arith)
split_covered (a ∷ s) p l b cs h =
    record {
      spans = split_all (ProperSpan (a ∷ s)) p (halves_proper (a ∷ s) p b) h.spans;
      once = λ x m. split_sum (covers x) p (λ c i j. covers_halves x p c (i, j)) cs ∙ h.once x m;
    }
