-- Laws that the functions' proofs cite.
use Prim.Native.Nat.{ℕ, zero, suc, ◌+◌, ◌*◌, ◌≤◌, ◌<◌}
use mathlib.Core.Path.{◌≡◌, refl, sym, ap, ◌∙◌}
use mathlib.Core.Bool.{true, false}
use mathlib.Core.List.{List, [], ◌∷◌}
use lib.ListN.{length, get_or, take, drop, length-drop, get_or-eq_default}
use lib.Seq.{get_or-drop, drop-drop}
use lib.Dec.{leb, eqb}
use borrow.Author.Tests.{lt-ltb}
use native.Mathlib.Omega.{arith}
use native.Mathlib.Decide.{dec_le}
use Rattle.model_sheet.specs.BigEndian.{number}
use Rattle.model_sheet.specs.Record.{positions, carries, front, fits, numbers}
use Rattle.model_sheet.proofs.Quads.{length_numbers}

-- an element of a part
at_place : (s : List ℕ) (at i : ℕ) → get_or (drop at s) i 0 ≡ get_or s (at + i) 0
at_place s at i = get_or-drop at s i 0

at_start : (s : List ℕ) (at : ℕ) → get_or (drop at s) 0 0 ≡ get_or s at 0
at_start s at = get_or-drop at s 0 0 ∙ ap (λ k. get_or s k 0) (omega arith)

two : (l : List ℕ) → 2 ≤ length l → number (take 2 l) ≡ get_or l 0 0 * 256 + get_or l 1 0
unfolding number
two [] h = absurd (omega arith)
two (x ∷ []) h = absurd (omega arith)
two (x ∷ y ∷ l) h = omega arith

four : (l : List ℕ) → 4 ≤ length l → number (take 4 l) ≡ ((get_or l 0 0 * 256 + get_or l 1 0) * 256 + get_or l 2 0) * 256 + get_or l 3 0
unfolding number
four [] h = absurd (omega arith)
four (x ∷ []) h = absurd (omega arith)
four (x ∷ y ∷ []) h = absurd (omega arith)
four (x ∷ y ∷ z ∷ []) h = absurd (omega arith)
four (x ∷ y ∷ z ∷ v ∷ l) h = omega arith

pub two_at : (s : List ℕ) (at : ℕ) → at + 2 ≤ length s → number (take 2 (drop at s)) ≡ get_or s at 0 * 256 + get_or s (at + 1) 0
two_at s at h = omega (arith, two (drop at s) (omega (arith, length-drop at s)), at_start s at, at_place s at 1)

pub four_at : (s : List ℕ) (at : ℕ) → at + 4 ≤ length s
    → number (take 4 (drop at s)) ≡ ((get_or s at 0 * 256 + get_or s (at + 1) 0) * 256 + get_or s (at + 2) 0) * 256 + get_or s (at + 3) 0
four_at s at h =
    omega (arith, four (drop at s) (omega (arith, length-drop at s)), at_start s at, at_place s at 1, at_place s at 2, at_place s at 3)

-- kinds above the table
no_positions : (k : ℕ) → 9 ≤ k → positions k ≡ 0
unfolding positions
no_positions k h = get_or-eq_default (0 ∷ 2 ∷ 2 ∷ 2 ∷ 1 ∷ 1 ∷ 1 ∷ 1 ∷ 3 ∷ []) 0 {n = k} h

-- a byte that is no kind's
pub no_kind : (k : ℕ) → (k ≡ 1 → ⊥) → (k ≡ 2 → ⊥) → (k ≡ 3 → ⊥) → (k ≡ 4 → ⊥) → (k ≡ 5 → ⊥) → (k ≡ 6 → ⊥) → (k ≡ 7 → ⊥) → (k ≡ 8 → ⊥) → positions k ≡ 0
unfolding positions
no_kind k h₁ h₂ h₃ h₄ h₅ h₆ h₇ h₈ =
    elim (dec_le 9 k) [
      | yes h ↦ no_positions k h
      | no h ↦ (let z : k ≡ 0 = omega arith in rw z)
    ]

-- the test of a kind and a size, by cases
pub fits_text : (k n : ℕ) → 0 < positions k → carries k ≡ true → fits k n ≡ leb (front k) n
unfolding fits
fits_text k n h e = rw (lt-ltb 0 (positions k) h, e)

pub fits_bare : (k n : ℕ) → 0 < positions k → carries k ≡ false → fits k n ≡ eqb (front k) n
unfolding fits
fits_bare k n h e = rw (lt-ltb 0 (positions k) h, e)

-- one of the positions
nth : (p i : ℕ) (s : List ℕ) → i < p → get_or (numbers p s) i 0 ≡ number (take 4 (drop (4 * i) s))
unfolding numbers
nth zero i s h = absurd (omega arith)
nth (suc p) zero s h = refl
nth (suc p) (suc i) s h =
    let sum : 4 + 4 * i ≡ 4 * suc i = omega arith in
    nth p i (drop 4 s) (omega arith) ∙ ap (λ l. number (take 4 l)) (drop-drop (4 * i) 4 s ∙ ap (λ k. drop k s) sum)

pub position_at : (p i at : ℕ) (s : List ℕ) → i < p → number (take 4 (drop (at + 4 * i) s)) ≡ get_or (numbers p (drop at s)) i 0
position_at p i at s h = sym (nth p i (drop at s) h ∙ ap (λ l. number (take 4 l)) (drop-drop (4 * i) at s))

pub position_none : (p i : ℕ) (s : List ℕ) → p ≤ i → 0 ≡ get_or (numbers p s) i 0
position_none p i s h = sym (get_or-eq_default (numbers p s) 0 {n = i} (omega (arith, length_numbers p s)))
