-- Rows of w words in a flat list of words. The laws hold for every width.
use mathlib.Core.Path.{◌≡◌, refl, sym, ap, ◌∙◌}
use mathlib.Core.List.{List, [], ◌∷◌, ◌++◌, append_assoc}
use mathlib.Core.Logic.{⊎_elim, ◌⊎◌, inl, inr}
use Prim.Native.Nat.{ℕ, suc, ◌+◌, ◌-◌, ◌*◌, ◌≤◌, ◌<◌}
use native.Mathlib.Nat.{mul-le-mul_right, suc-mul}
use native.Mathlib.Omega.{arith}
use native.Mathlib.Decide.{dec_lt}
use lib.ListN.{length, get_or, take, drop, set, length-drop, take-append-drop}
use lib.Seq.{sets, sets-eq, length-take-le, take_at, drop_at, take-append-le, drop-append-le, length-sets, drop-set-lt, take-set-le, get_or-take, get_or-drop}
use lib.Dec.{ltb}
use mathlib.Core.Bool.{true}
use borrow.Author.Tests.{ltb-true}
use borrow.Rule.Slice.PartMut.{put_mid, Post-is}

-- row i of width w
abbrev pub cells : ℕ → List ℕ → ℕ → List ℕ
cells w t i = take w (drop (i * w) t)

-- word k of row i. The bound is a test, which computes at numerals
pub cells_word : (w : ℕ) (t : List ℕ) (i k : ℕ) → ltb k w ≡ true → get_or (cells w t i) k 0 ≡ get_or t (i * w + k) 0
cells_word w t i k h = get_or-take w (drop (i * w) t) k 0 (ltb-true k w h) ∙ get_or-drop (i * w) t k 0

-- what is left where words were copied into a part
pub part_sets : (t : List ℕ) (b : ℕ) (ys vs : List ℕ) → ys ≡ vs → b + length vs ≤ length t → put_mid b (b + length vs - b) t ys ≡ sets t b vs
part_sets t b ys vs e h =
    rw e
    (ap (λ (z : List ℕ). take b t ++ (vs ++ z)) (Post-is b (b + length vs) t (omega arith))
    ∙ sym (append_assoc (take b t) vs (drop (b + length vs) t))
    ∙ sym (sets-eq vs t b h))

pub sides : {i j : ℕ} → (j ≡ i → ⊥) → (j < i) ⊎ (i < j)
sides {i} {j} n = elim (dec_lt j i) [ yes h ↦ inl h | no h ↦ inr (omega arith) ]

-- rows lie apart
pub apart : (w i j : ℕ) → i < j → i * w + w ≤ j * w
apart w i j h = omega (arith, mul-le-mul_right w h, suc-mul i w)

-- a part that ends in the first of two lists; a part past a run of stores
front : (n w : ℕ) (x y : List ℕ) → n + w ≤ length x → take w (drop n (x ++ y)) ≡ take w (drop n x)
front n w x y h =
    ap (take w) (drop-append-le n x y (omega arith))
    ∙ take-append-le w (drop n x) y (simp length-drop (omega arith))

pub drop_sets : (n : ℕ) (t : List ℕ) (b : ℕ) (vs : List ℕ) → b + length vs ≤ n → drop n (sets t b vs) ≡ drop n t
drop_sets n t b [] h = refl
drop_sets n t b (v ∷ vs) h = drop_sets n (set t b v) (suc b) vs (omega arith) ∙ drop-set-lt n t b v (omega arith)

pub take_sets : (n : ℕ) (t : List ℕ) (b : ℕ) (vs : List ℕ) → n ≤ b → take n (sets t b vs) ≡ take n t
take_sets n t b [] h = refl
take_sets n t b (v ∷ vs) h = take_sets n (set t b v) (suc b) vs (omega arith) ∙ take-set-le n t b v h

module _ (w : ℕ) (t : List ℕ) (i : ℕ) (vs : List ℕ) (l : length vs ≡ w) (fits : i * w + w ≤ length t) where
  pub cells_same : cells w (sets t (i * w) vs) i ≡ vs
  cells_same =
      ap (λ (x : List ℕ). take w (drop (i * w) x)) (sets-eq vs t (i * w) (omega arith) ∙ append_assoc (take (i * w) t) vs _)
      ∙ ap (take w) (drop_at (take (i * w) t) _ (i * w) (length-take-le (i * w) t (omega arith)))
      ∙ take_at vs _ w l

  -- the words before row i are those of the first i rows
  front_of : (x : List ℕ) (j : ℕ) → j < i → i * w ≤ length x → cells w x j ≡ take w (drop (j * w) (take (i * w) x))
  front_of x j h k =
      ap (λ (y : List ℕ). take w (drop (j * w) y)) (sym (take-append-drop (i * w) x))
      ∙ front (j * w) w (take (i * w) x) (drop (i * w) x)
      (simp (length-take-le (i * w) x k) (apart w j i h))

  pub cells_other : (j : ℕ) → (j ≡ i → ⊥) → cells w (sets t (i * w) vs) j ≡ cells w t j
  cells_other j n =
      ⊎_elim
      (λ h.
      front_of (sets t (i * w) vs) j h (simp length-sets (omega arith))
      ∙ ap (λ (y : List ℕ). take w (drop (j * w) y)) (take_sets (i * w) t (i * w) vs (omega arith))
      ∙ sym (front_of t j h (omega arith)))
      (λ h. ap (take w) (drop_sets (j * w) t (i * w) vs (omega (arith, apart w i j h))))
      (sides n)
