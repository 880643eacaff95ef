-- What `trim_text`'s laws of a number and its pattern give for a piece list.
use mathlib.Core.Path.{◌≡◌, refl, ap, ◌∙◌}
use mathlib.Core.Bool.{Bool, true, false}
use mathlib.Core.List.{List, [], ◌∷◌, reverse}
use Prim.Native.Nat.{ℕ, suc, min}
use Rattle.model.specs.Text.{Text}
use Rattle.model.specs.Trim.{trim_deque_start, trim_reversed}
use Rattle.memory.specs.Layout.{Place, run_of}
use Rattle.trim_text.proofs.Numbers.{same_of}
use Rattle.trim_run.specs.Deque.{trim_deque}
use Rattle.trim_run.specs.Run.{RunTrimmed}

from_start : (k : ℕ) (l : List Text) → trim_deque_start 1 l ≡ trim_deque_start (suc k) l
from_start k [] = refl
from_start k (s ∷ l) = rw (from_start k l)

reversed : (k : ℕ) (l : List Text) → trim_reversed 1 l ≡ trim_reversed (suc k) l
reversed k [] = refl
reversed k (s ∷ l) = rw (reversed k l)

module _ (number p : ℕ) (e : p ≡ min number 1) where
  pub same_deque : (front : Bool) (l : List Text) → trim_deque front p l ≡ trim_deque front number l
  same_deque true l = same_of (λ (q : ℕ). trim_deque_start q l) (λ k. from_start k l) number p e
  same_deque false l = ap reverse (same_of (λ (q : ℕ). trim_reversed q (reverse l)) (λ k. reversed k (reverse l)) number p e)

  pub same_run : (front : Bool) (ps s : List ℕ) (at n top : ℕ) (ps' : List ℕ) (r : Place) → RunTrimmed front p ps s at n top ps' r → RunTrimmed front number ps s at n top ps' r
  same_run front ps s at n top ps' r h =
      record { kept = h.kept; text = h.text ∙ same_deque front (run_of ps s (at, n)); low = h.low; place = h.place; out = h.out; inside = h.inside; part = h.part }
