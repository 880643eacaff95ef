-- What the model says of a number, it says of the number of the pattern that `Pattern::of` makes of it: 0 is white space, every other one line ends.
use mathlib.Core.Path.{◌≡◌, refl, ap, ◌∙◌}
use mathlib.Core.Bool.{Bool, true, false}
use mathlib.Core.List.{List}
use Prim.Native.Nat.{ℕ, zero, suc, min}
use native.Mathlib.Omega.{arith}
use lib.ListN.{take, drop}
use Rattle.model.specs.Text.{Text, trim_start_matches, trim_end_matches}
use Rattle.model.specs.Trim.{matches, trim_start_pattern, trim_end_pattern}
use Rattle.trim_text.specs.Sides.{trim_text, blank, PlaceTrimmed}

-- what says the same of 1 and of each number above it
pub same_of : {A : Type 0} (f : ℕ → A) → ((k : ℕ) → f 1 ≡ f (suc k)) → (number p : ℕ) → p ≡ min number 1 → f p ≡ f number
same_of f h zero p e = let z : p ≡ 0 = omega arith in ap f z
same_of f h (suc k) p e = let z : p ≡ 1 = omega arith in ap f z ∙ h k

module _ (number p : ℕ) (e : p ≡ min number 1) where
  pub same_matches : matches p ≡ matches number
  same_matches = same_of matches (λ k. refl) number p e

  pub same_start : trim_start_pattern p ≡ trim_start_pattern number
  same_start = ap trim_start_matches same_matches

  pub same_end : trim_end_pattern p ≡ trim_end_pattern number
  same_end = ap trim_end_matches same_matches

  pub same_text : (front : Bool) → trim_text front p ≡ trim_text front number
  same_text true = same_start
  same_text false = same_end

  pub same_blank : blank p ≡ blank number
  unfolding blank
  same_blank = same_of blank (λ k. refl) number p e

  pub same_place : (front : Bool) (l : List ℕ) (at n r k : ℕ) → PlaceTrimmed front p l at n r k → PlaceTrimmed front number l at n r k
  same_place front l at n r k h = record { first = h.first; last = h.last; text = h.text ∙ ap (λ (f : Text → Text). f (take n (drop at l))) (same_text front) }
