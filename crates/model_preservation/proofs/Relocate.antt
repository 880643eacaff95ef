-- `relocate` rearranges the chunks, and so keeps a desk formed.
use Prim.Native.Nat.{ℕ, ◌+◌}
use native.Mathlib.Omega.{arith}
use mathlib.Core.Path.{◌≡◌, refl, sym, ap, ◌∙◌, subst}
use mathlib.Core.Bool.{true, ◌&&◌}
use mathlib.Core.List.{List, [], ◌∷◌, ◌++◌}
use lib.Dec.{ltb, leb, eqb}
use lib.ListN.{length}
use Rattle.utf8.specs.Rfc3629.{between}
use Rattle.utf8.specs.Chars.{All, nil, cons}
use Rattle.utf8.proofs.CharLaws.{all_front, all_back}
use Rattle.model.specs.Text.{Text, sum}
use Rattle.model.specs.Chunk.{Chunk, start_of, end_of}
use Rattle.model.specs.MagicString.{MagicString, Result, and_then, by_start, split_at}
use Rattle.model.specs.Movement.{Segment, together, apart, into_range, before_range, begins_at, range_from, segment, insert_before, stands_there, move_segment, relocate}
use Rattle.model.proofs.Lists.{all_append, sum_append}
use Rattle.model_preservation.proofs.Lists.{of_cond}
use Rattle.model_preservation.proofs.Spans.{Rearranged}
use Rattle.model_preservation.proofs.Desk.{Leaves, of_and_then, order_keeps, FormedOf, cut_keeps}
use Rattle.model_preservation.proofs.Edits.{two_cuts}

-- ---- the list taken apart

-- the parts one behind the other are the list
abbrev pub Parts : List Chunk → Segment → Type 0
Parts cs (together before range behind) = cs ≡ before ++ (range ++ behind)
Parts cs apart = Unit {0}

-- the same, with nothing before the range
abbrev FirstParts : List Chunk → Segment → Type 0
FirstParts cs (together before range behind) = (before ≡ []) × (cs ≡ range ++ behind)
FirstParts cs apart = Unit {0}

into_first : (c : Chunk) (cs : List Chunk) (g : Segment) → FirstParts cs g → FirstParts (c ∷ cs) (into_range c g)
into_first c cs (together before range behind) h = (h.0, ap (λ (l : List Chunk). c ∷ l) h.1)
into_first c cs apart h = tt

first_parts : (cs : List Chunk) (g : Segment) → FirstParts cs g → Parts cs g
first_parts cs (together before range behind) h = h.1 ∙ ap (λ (l : List Chunk). l ++ (range ++ behind)) (sym h.0)
first_parts cs apart h = tt

before_parts : (c : Chunk) (cs : List Chunk) (g : Segment) → Parts cs g → Parts (c ∷ cs) (before_range c g)
before_parts c cs (together before range behind) h = ap (λ (l : List Chunk). c ∷ l) h
before_parts c cs apart h = tt

range_parts : (end : ℕ) (cs : List Chunk) → FirstParts cs (range_from end cs)
range_parts end [] = tt
range_parts end (c ∷ cs) =
    of_cond (FirstParts (c ∷ cs)) (eqb (end_of c) end) (λ _. (refl, refl))
    (λ _. of_cond (FirstParts (c ∷ cs)) (begins_at (end_of c) cs) (λ _. into_first c cs (range_from end cs) (range_parts end cs)) (λ _. tt))

pub segment_parts : (start end : ℕ) (cs : List Chunk) → Parts cs (segment start end cs)
segment_parts start end [] = tt
segment_parts start end (c ∷ cs) =
    of_cond (Parts (c ∷ cs)) (eqb (start_of c) start) (λ _. first_parts (c ∷ cs) (range_from end (c ∷ cs)) (range_parts end (c ∷ cs)))
    (λ _. before_parts c cs (segment start end cs) (segment_parts start end cs))

-- ---- and put together again

pub insert_all : (P : Chunk → Type 0) (to : ℕ) {range cs : List Chunk} → All P range → All P cs → All P (insert_before to range cs)
insert_all P to r nil = r
insert_all P to r (cons {x = c} h k) = of_cond (All P) (eqb (start_of c) to) (λ _. all_append r (cons h k)) (λ _. cons h (insert_all P to r k))

pub insert_sum : (f : Chunk → ℕ) (to : ℕ) (range cs : List Chunk) → sum f (insert_before to range cs) ≡ sum f range + sum f cs
insert_sum f to range [] = omega arith
insert_sum f to range (c ∷ cs) =
    of_cond (λ (l : List Chunk). sum f l ≡ sum f range + (f c + sum f cs)) (eqb (start_of c) to)
    (λ _. sum_append f range (c ∷ cs)) (λ _. omega (arith, insert_sum f to range cs))

pub insert_rearranged : (to : ℕ) (cs before range behind : List Chunk) → cs ≡ before ++ (range ++ behind) → Rearranged cs (insert_before to range (before ++ behind))
insert_rearranged to cs before range behind e =
    record {
      every = λ P h. let k = subst (All P) e h in
          let i = all_back P before (range ++ behind) k in
          insert_all P to (all_front P range behind i) (all_append (all_front P before (range ++ behind) k) (all_back P range behind i));
      total = λ f. omega (arith, insert_sum f to range (before ++ behind), sum_append f before behind, sum_append f before (range ++ behind), sum_append f range behind, ap (sum f) e);
    }

-- ---- the call

module _ (source : Text) where
  move_keeps : (to : ℕ) (m : MagicString) (g : Segment) → Parts m.chunks g → FormedOf source m → Leaves (FormedOf source) (move_segment to m g)
  move_keeps to m apart p h = record { desk = h }
  move_keeps to m (together before range behind) p h =
      of_cond (Leaves (FormedOf source)) (stands_there (by_start to m.chunks) behind) (λ _. record { desk = h })
      (λ _. record { desk = record { formed = order_keeps m _ h.formed (insert_rearranged to m.chunks before range behind p); source_is = h.source_is } })

  pub relocate_keeps : (start end to : ℕ) → between source start ≡ true → between source end ≡ true → between source to ≡ true
      → (m : MagicString) → FormedOf source m → Leaves (FormedOf source) (relocate start end to m)
  unfolding relocate
  relocate_keeps start end to a b d m h =
      let K : Result → Type 0 = Leaves (FormedOf source) in
      of_cond K (leb start to && leb to end) (λ _. record { desk = h })
      (λ _. of_cond K (eqb start end) (λ _. record { desk = h })
      (λ _. of_cond K (ltb end start) (λ _. record { desk = h })
      (λ _. of_cond K (ltb (length m.source) end) (λ _. record { desk = h })
      (λ _. two_cuts source start end a b (λ n. and_then (split_at to n) (λ n. move_segment to n (segment start end n.chunks)))
      (λ n k. of_and_then (FormedOf source) (split_at to n) (λ n. move_segment to n (segment start end n.chunks)) (cut_keeps source to d n k)
      (λ o l. move_keeps to o (segment start end o.chunks) (segment_parts start end o.chunks) l))
      m h))))
