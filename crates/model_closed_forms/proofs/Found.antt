-- A chunk by its start or its end, where it is known: the search finds it, and a change of it is a change in place.
use mathlib.Core.Path.{◌≡◌, refl, ap}
use mathlib.Core.Bool.{Bool, true, false}
use mathlib.Core.List.{List, ◌∷◌, ◌++◌}
use mathlib.Core.Option.{Option, none, some}
use Prim.Native.Nat.{ℕ}
use native.Mathlib.Omega.{arith}
use lib.Dec.{eqb}
use Rattle.utf8.specs.Chars.{All, nil, cons}
use Rattle.model.specs.Chunk.{Texts, Chunk, with_texts}
use Rattle.model.specs.MagicString.{Result, edge, by_edge, at_edge}

module _ (left : Bool) (q : ℕ) where
  abbrev Meets : Chunk → Bool
  Meets c = eqb (edge left c.span) q

  pub edge_at : {xs : List Chunk} (c : Chunk) (ys : List Chunk) → All (λ d. Meets d ≡ false) xs → Meets c ≡ true → by_edge left q (xs ++ c ∷ ys) ≡ some c
  edge_at c ys nil h = rw h
  edge_at c ys (cons n ns) h = rw n (edge_at c ys ns h)

  pub edge_none : {xs : List Chunk} → All (λ d. Meets d ≡ false) xs → by_edge left q xs ≡ none
  edge_none nil = refl
  edge_none (cons n ns) = rw n (edge_none ns)

  pub edge_set : {xs : List Chunk} (f : Texts → Texts) (c : Chunk) (ys : List Chunk) → All (λ d. Meets d ≡ false) xs → Meets c ≡ true
      → at_edge left q f (xs ++ c ∷ ys) ≡ xs ++ with_texts f c ∷ ys
  edge_set f c ys nil h = rw h
  edge_set f c ys (cons {x = d} n ns) h = rw n (ap (λ (l : List Chunk). d ∷ l) (edge_set f c ys ns h))

-- what a step does by the search
pub some_is : (o : Option Chunk) (c : Chunk) (x y : Result) → o ≡ some c → elim o as (λ _. Result) [ none ↦ x | some d ↦ y ] ≡ y
some_is none c x y e = let z : ◌≡◌ {A = ℕ} 0 1 = cc in absurd (omega arith)
some_is (some d) c x y e = refl

pub none_is : (o : Option Chunk) (x y : Result) → o ≡ none → elim o as (λ _. Result) [ none ↦ x | some d ↦ y ] ≡ x
none_is none x y e = refl
none_is (some d) x y e = let z : ◌≡◌ {A = ℕ} 0 1 = cc in absurd (omega arith)
