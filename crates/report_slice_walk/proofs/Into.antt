-- From the walk's two answers, counted and written, to what they give.
use mathlib.Core.Path.{◌≡◌, refl, ap, ◌∙◌}
use mathlib.Core.Bool.{Bool, true, false}
use mathlib.Core.List.{List, [], ◌∷◌, ◌++◌}
use Prim.Native.Nat.{ℕ, ◌≤◌, ◌<◌}
use native.Mathlib.Omega.{arith}
use lib.ListN.{length, drop}
use borrow.Author.Tests.{le-leb, lt-leb}
use Rattle.model.specs.Text.{Text}
use Rattle.model.specs.Chunk.{Chunk}
use Rattle.model.specs.Slice.{Sliced, text, refused, contains_end, ends_inside, chunk_slice, before, slice_rest}
use Rattle.model.specs.Call.{sliced_into}
use Rattle.memory_texts.proofs.Over.{over_front}
use Rattle.report_slice_walk.specs.Walk.{slice_walk, Fits, Out, Gives}

-- ---- the walk refuses with 12 alone

pub Proper : Sliced → Type 0
Proper (text x) = Unit {0}
Proper (refused k) = k ≡ 12

before_proper : (x : Text) (r : Sliced) → Proper r → Proper (before x r)
unfolding Proper
before_proper x (text z) h = tt
before_proper x (refused k) h = h

step_proper : (e h : Bool) (x : Text) (r : Sliced) → Proper r → Proper (elim e as (λ _. Sliced) [ true ↦ refused 12 | false ↦ before x (elim h as (λ _. Sliced) [ true ↦ text [] | false ↦ r ]) ])
unfolding Proper
step_proper true h x r p = refl
step_proper false true x r p = tt
step_proper false false x r p = before_proper x r p

rest_proper : (source : Text) (end : ℕ) (cs : List Chunk) → Proper (slice_rest source end cs)
unfolding Proper
rest_proper source end [] = tt
rest_proper source end (c ∷ cs) = step_proper (ends_inside c end) (contains_end c end) (chunk_slice source true 0 end c) (slice_rest source end cs) (rest_proper source end cs)

pub walk_proper : (source : Text) (w : Bool) (begin end : ℕ) (cs : List Chunk) → Proper (slice_walk source w begin end cs)
unfolding Proper
walk_proper source w begin end [] = tt
walk_proper source w begin end (c ∷ cs) = step_proper (ends_inside c end) (contains_end c end) (chunk_slice source w begin end c) (slice_rest source end cs) (rest_proper source end cs)

-- ---- the two walks

module _ (d d1 : List ℕ) (number value : ℕ) where
  pub into_refused : (x : Sliced) → Out false x d d1 number value → (number ≡ 0 → ⊥) → Gives (sliced_into (length d) x) d d1 number 0
  into_refused (text t) o h = absurd (h o.0)
  into_refused (refused k) o h = record { number_is = o.0; value_is = refl; written = o.2 refl }

  pub into_short : (x : Sliced) → Proper x → Out false x d d1 number value → number ≡ 0 → length d1 < value → Gives (sliced_into (length d) x) d d1 14 0
  unfolding Proper
  into_short (text t) p o z h =
      let l : length d1 ≡ length d = ap length o.2 in
      rw (lt-leb (length t) (length d) (omega (arith, o.1))) (record { number_is = refl; value_is = refl; written = o.2 })
  into_short (refused k) p o z h = absurd (omega (arith, o.0, p))

  pub into_fits : (x : Sliced) → Proper x → Out false x d d1 number value → number ≡ 0 → value ≤ length d1 → Fits x d1
  unfolding Proper
  into_fits (text t) p o z h = omega (arith, o.1)
  into_fits (refused k) p o z h = absurd (omega (arith, o.0, p))

  pub into_wrote : (x : Sliced) → Proper x → Out false x d d1 number value → number ≡ 0 → value ≤ length d1 → (d2 : List ℕ) (number' value' : ℕ) → Out true x d1 d2 number' value'
      → Gives (sliced_into (length d) x) d d2 number' value'
  unfolding Proper
  into_wrote (text t) p o z h d2 number' value' o' =
      let l : length d1 ≡ length d = ap length o.2 in
      rw (le-leb (length t) (length d) (omega (arith, o.1)))
      (record { number_is = o'.0; value_is = o'.1; written = o'.2 ∙ over_front d1 t ∙ ap (λ (y : List ℕ). t ++ drop (length t) y) o.2 })
  into_wrote (refused k) p o z h d2 number' value' o' = absurd (omega (arith, o.0, p))
