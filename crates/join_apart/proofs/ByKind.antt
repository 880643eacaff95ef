-- The call of a record by its kind: whether it fits, its places, and whether a move spares it.
use Prim.Native.Nat.{ℕ, zero, suc, ◌+◌, ◌-◌, ◌≤◌, ◌<◌}
use native.Mathlib.Omega.{arith}
use native.Mathlib.Decide.{dec_le, dec_lt}
use mathlib.Core.Path.{◌≡◌, refl, sym, ap, ap₂, ◌∙◌}
use mathlib.Core.Bool.{Bool, true, false, ◌&&◌, ◌||◌, not, cond, and-true}
use lib.Dec.{ltb, leb, eqb}
use borrow.Author.Tests.{ltb-true, leb-true, lt-ltb, le-ltb, le-leb, lt-leb, ne_eqb}
use Rattle.model.specs.Text.{Text}
use Rattle.model.specs.Call.{Edit, remove, update_with, reset, insert, relocate}
use Rattle.model.proofs.Lists.{and_left, clash}
use Rattle.model_sheet.specs.Sheet.{inserts_left, inserts_front, call_of}
use Rattle.model_join.specs.Tests.{left_zone, right_zone, is_move, free_of}
use Rattle.join_apart.specs.Kinds.{is_range}
use Rattle.join_apart.specs.Places.{stretch, place_of, fits_in}
use Rattle.join_apart.specs.Marking.{Fits}
pub use Rattle.join_apart.specs.Marking.{call}

-- ── tests made one after the other ──
pub tests_third : {u v w x y z : Bool} → u ≡ x → v ≡ y → w ≡ z → u ≡ true → v ≡ true → w ≡ x && (y && (z && true))
tests_third {z = z} e f g h k = rw (← e, ← f, h, k) (g ∙ sym (and-true z))

pub tests_second : {u v x y : Bool} (q : Bool) → u ≡ x → v ≡ y → u ≡ true → v ≡ false → v ≡ x && (y && q)
tests_second q e f h k = rw (← e, ← f, h, k)

pub tests_first : {u x : Bool} (q : Bool) → u ≡ x → u ≡ false → u ≡ x && q
tests_first q e h = rw (← e, h)

pub range_test : {w : Bool} (n a b : ℕ) → a < b → w ≡ leb b n → w ≡ ltb a b && (leb a n && (leb b n && true))
range_test n a b h e =
    elim (dec_le b n) [
      | yes l ↦ e ∙ rw (lt-ltb a b h, le-leb a n (omega arith), le-leb b n l)
      | no l ↦ elim (dec_le a n) [
        | yes m ↦ e ∙ rw (lt-ltb a b h, le-leb a n m, lt-leb b n (omega arith))
        | no m ↦ e ∙ rw (lt-ltb a b h, lt-leb a n (omega arith), lt-leb b n (omega arith))
      ]
    ]

pub range_out : (a b : ℕ) (q : Bool) → b ≤ a → ltb a b ≡ ltb a b && q
range_out a b q h = rw (le-ltb a b h)

-- ── kinds ──
-- left of 0 is the head, right of the end is the tail
left_stretch : (n p : ℕ) → stretch n (left_zone p) ≡ (p, 1)
left_stretch n zero = refl
left_stretch n (suc p) = ap₂ (λ (x y : ℕ). (x, y)) (omega arith) (omega arith)

right_stretch : (n p : ℕ) → p ≤ n → stretch n (right_zone n p) ≡ (p + 1, 1)
right_stretch n p h =
    elim (dec_lt p n) [
      | yes l ↦ rw (lt-ltb p n l) (ap (λ (y : ℕ). (p + 1, y)) (omega arith))
      | no l ↦ rw (le-ltb p n (omega arith)) (ap (λ (x : ℕ). (x, 1)) (omega arith))
    ]

-- none of the kinds 1 to 3
pub no_range : (k : ℕ) → (k ≡ 1 → ⊥) → (k ≡ 2 → ⊥) → (k ≡ 3 → ⊥) → false ≡ is_range k
no_range k h i j = rw (ne_eqb k 1 h, ne_eqb k 2 i, ne_eqb k 3 j)

module _ (k a b c : ℕ) (t : Text) where
  -- a kind with a range: what the three calls have in common
  range_as : {X : Type 0} (F : Edit → X) (x : X) → F (remove a b) ≡ x → F (update_with a b t true) ≡ x → F (reset a b) ≡ x → is_range k ≡ true → F (call k a b c t) ≡ x
  unfolding call_of
  range_as F x p q r h = go (eqb k 1) (eqb k 2) (eqb k 3) _ h
    where
      go : (u v w : Bool) (e : Edit) → (u || v) || w ≡ true → F (cond u (remove a b) (cond v (update_with a b t true) (cond w (reset a b) e))) ≡ x
      go true v w e h = p
      go false true w e h = q
      go false false true e h = r
      go false false false e h = clash h refl

  -- the other kinds: a move or an insertion
  other_as : is_range k ≡ false → call k a b c t ≡ cond (eqb k 8) (relocate a b c) (insert a t (inserts_left k) (inserts_front k))
  unfolding call_of
  other_as h = go (eqb k 1) (eqb k 2) (eqb k 3) _ h
    where
      go : (u v w : Bool) (e : Edit) → (u || v) || w ≡ false → cond u (remove a b) (cond v (update_with a b t true) (cond w (reset a b) e)) ≡ e
      go true v w e h = clash refl h
      go false true w e h = clash refl h
      go false false true e h = clash refl h
      go false false false e h = refl

  pub is_relocate : k ≡ 8 → call k a b c t ≡ relocate a b c
  unfolding call_of
  is_relocate e = ap (λ k. call k a b c t) e

  is_insert : is_range k ≡ false → (k ≡ 8 → ⊥) → call k a b c t ≡ insert a t (inserts_left k) (inserts_front k)
  is_insert h n = other_as h ∙ ap (λ x. cond x (relocate a b c) (insert a t (inserts_left k) (inserts_front k))) (ne_eqb k 8 n)

  -- a kind other than 8 is no move
  pub no_move : (k ≡ 8 → ⊥) → is_move (call k a b c t) ≡ false
  no_move n = go (is_range k) refl
    where
      go : (r : Bool) → is_range k ≡ r → is_move (call k a b c t) ≡ false
      go true h = range_as is_move false refl refl refl h
      go false h = ap is_move (is_insert h n)

  -- ── fitting ──
  module _ (n : ℕ) where
    pub range_fits : is_range k ≡ true → fits_in n (call k a b c t) ≡ ltb a b && (leb a n && (leb b n && true))
    unfolding fits_in
    range_fits h = range_as (fits_in n) (ltb a b && (leb a n && (leb b n && true))) refl refl refl h

    pub move_fits : k ≡ 8 → fits_in n (call k a b c t) ≡ leb a n && (leb b n && (leb c n && true))
    unfolding fits_in
    move_fits e = ap (fits_in n) (is_relocate e)

    pub insert_fits : is_range k ≡ false → (k ≡ 8 → ⊥) → fits_in n (call k a b c t) ≡ leb a n && true
    unfolding fits_in
    insert_fits h e = ap (fits_in n) (is_insert h e)

    -- ── places ──
    pub range_place : is_range k ≡ true → place_of n (call k a b c t) ≡ (a + 1, b - a)
    unfolding place_of
    range_place h = range_as (place_of n) (a + 1, b - a) refl refl refl h

    pub move_place : k ≡ 8 → place_of n (call k a b c t) ≡ (n + 2, 1)
    unfolding place_of
    move_place e = ap (place_of n) (is_relocate e)

    pub insert_left_place : is_range k ≡ false → (k ≡ 8 → ⊥) → inserts_left k ≡ true → place_of n (call k a b c t) ≡ (a, 1)
    unfolding place_of
    insert_left_place h e l =
        ap (place_of n) (is_insert h e) ∙ ap (λ (s : Bool). stretch n (cond s (left_zone a) (right_zone n a))) l ∙ left_stretch n a

    pub insert_right_place : is_range k ≡ false → (k ≡ 8 → ⊥) → inserts_left k ≡ false → a ≤ n → place_of n (call k a b c t) ≡ (a + 1, 1)
    unfolding place_of
    insert_right_place h e l m =
        ap (place_of n) (is_insert h e) ∙ ap (λ (s : Bool). stretch n (cond s (left_zone a) (right_zone n a))) l ∙ right_stretch n a m

    pub insert_within : is_range k ≡ false → (k ≡ 8 → ⊥) → fits_in n (call k a b c t) ≡ true → a ≤ n
    insert_within h e f = leb-true a n (and_left (leb a n) true (sym (insert_fits h e) ∙ f))

    pub range_wide : is_range k ≡ true → fits_in n (call k a b c t) ≡ true → a < b
    range_wide h f = ltb-true a b (and_left (ltb a b) (leb a n && (leb b n && true)) (sym (range_fits h) ∙ f))

-- what fits with one text fits with any
module _ (k a b c n : ℕ) where
  fits_any : (t t' : Text) → fits_in n (call k a b c t) ≡ fits_in n (call k a b c t')
  unfolding call_of fits_in
  fits_any t t' = go (eqb k 1) (eqb k 2) (eqb k 3) (eqb k 8)
    where
      go : (u v w x : Bool)
          → fits_in n (cond u (remove a b) (cond v (update_with a b t true) (cond w (reset a b) (cond x (relocate a b c) (insert a t (inserts_left k) (inserts_front k))))))
          ≡ fits_in n (cond u (remove a b) (cond v (update_with a b t' true) (cond w (reset a b) (cond x (relocate a b c) (insert a t' (inserts_left k) (inserts_front k))))))
      go true v w x = refl
      go false true w x = refl
      go false false true x = refl
      go false false false true = refl
      go false false false false = refl

  pub fits_all : {r : Bool} (t : Text) → r ≡ fits_in n (call k a b c t) → Fits n k a b c r
  fits_all t e t' = e ∙ fits_any t t'

-- ── what a move spares ──
module _ (k from to third : ℕ) (t : Text) where
  pub update_spared : (a b c : ℕ) → k ≡ 2
      → free_of (relocate a b c) (call k from to third t) ≡ not (ltb from a && ltb a to) && (not (ltb from b && ltb b to) && (not (ltb from c && ltb c to) && true))
  unfolding call_of
  update_spared a b c e = ap (λ k. free_of (relocate a b c) (call k from to third t)) e

  -- the other kinds replace nothing
  pub others_spared : (a b c : ℕ) → (k ≡ 2 → ⊥) → true ≡ free_of (relocate a b c) (call k from to third t)
  unfolding call_of
  others_spared a b c n = sym (go (eqb k 1) (eqb k 2) (eqb k 3) (eqb k 8) (ne_eqb k 2 n))
    where
      go : (u v w x : Bool) → v ≡ false
          → free_of (relocate a b c)
          (cond u (remove from to) (cond v (update_with from to t true) (cond w (reset from to) (cond x (relocate from to third) (insert from t (inserts_left k) (inserts_front k))))))
          ≡ true
      go true v w x h = refl
      go false true w x h = clash refl h
      go false false true x h = refl
      go false false false true h = refl
      go false false false false h = refl
