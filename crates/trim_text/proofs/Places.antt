-- What the functions on one text ask: the patterns, and the places of what stays.
use mathlib.Core.Path.{◌≡◌, refl, sym, ap, ◌∙◌}
use mathlib.Core.Bool.{true, false, ◌||◌}
use mathlib.Core.List.{List, [], ◌∷◌}
use Prim.Native.Nat.{ℕ, zero, suc, ◌+◌, ◌-◌, ◌≤◌}
use native.Mathlib.Omega.{arith}
use native.Mathlib.Decide.{ℕ_discrete}
use lib.Dec.{eqb}
use lib.ListN.{length, take, drop, length-take, length-drop}
use lib.Seq.{take-take, drop-drop}
use borrow.Author.Tests.{eq-eqb, ne_eqb}
use Rattle.utf8.specs.WhiteSpace.{white_space}
use Rattle.model.specs.Text.{Text, is_nil}
use Rattle.model.specs.Trim.{matches, trim_start_pattern, trim_end_pattern}
use Rattle.model.proofs.Lists.{nil_true, nil_false}
use Rattle.trim_text.specs.Sides.{blank, PlaceTrimmed}
use Rattle.trim_text.proofs.Sides.{trim_nil}

pub matches_space : (p v : ℕ) → p ≡ 0 → matches p v ≡ white_space v
matches_space zero v e = refl
matches_space (suc p) v e = absurd (omega arith)

pub matches_line : (p v : ℕ) → (p ≡ 0 → ⊥) → matches p v ≡ (eqb v 13 || eqb v 10)
matches_line zero v e = absurd (e refl)
matches_line (suc p) v e = refl

drop_nil : (r : ℕ) (s : Text) → r ≤ length s → is_nil (drop r s) ≡ eqb r (length s)
drop_nil r s h =
    elim (ℕ_discrete r (length s)) [
      | yes e ↦ nil_true (drop r s) (omega (arith, length-drop r s)) ∙ sym (eq-eqb r (length s) e)
      | no e ↦ nil_false (drop r s) (omega (arith, length-drop r s)) ∙ sym (ne_eqb r (length s) e)
    ]

pub blank_test : (p : ℕ) (s : Text) (r : ℕ) → r ≤ length s → drop r s ≡ trim_start_pattern p s → eqb r (length s) ≡ blank p s
blank_test p s r h e = sym (drop_nil r s h) ∙ ap is_nil e ∙ trim_nil true p s

-- the part of a list at a place
module _ (p : ℕ) (l : List ℕ) (at n : ℕ) (h : at + n ≤ length l) where
  size : length (take n (drop at l)) ≡ n
  size = simp (length-take, length-drop) (omega arith)

  part_drop : (k a m : ℕ) (x : List ℕ) → k + m ≡ a → take m (drop k x) ≡ drop k (take a x)
  part_drop zero a m x e = let q : m ≡ a = omega arith in rw q
  part_drop (suc k) zero m x e = absurd (omega arith)
  part_drop (suc k) (suc a) m [] e = nothing m
    where
      nothing : (m : ℕ) → take {A = ℕ} m [] ≡ []
      nothing zero = refl
      nothing (suc m) = refl
  part_drop (suc k) (suc a) m (y ∷ x) e = part_drop k a m x (omega arith)

  pub front_place : (k : ℕ) → k ≤ length (take n (drop at l)) → drop k (take n (drop at l)) ≡ trim_start_pattern p (take n (drop at l))
      → PlaceTrimmed true p l at n (at + k) (n - k)
  front_place k g e =
      record {
        first = omega arith;
        last = omega (arith, size);
        text = ap (take (n - k)) (sym (drop-drop k at l)) ∙ part_drop k n (n - k) (drop at l) (omega (arith, size)) ∙ e;
      }

  pub back_place : (k : ℕ) → k ≤ length (take n (drop at l)) → take k (take n (drop at l)) ≡ trim_end_pattern p (take n (drop at l)) → PlaceTrimmed false p l at n at k
  back_place k g e = record { first = omega arith; last = omega (arith, size); text = sym (take-take k n (drop at l) (omega (arith, size))) ∙ e }
