-- Two edits are apart exactly if no place is taken by both.
use Prim.Native.Nat.{ℕ, zero, suc, ◌+◌, ◌-◌, ◌≤◌, ◌<◌}
use native.Mathlib.Omega.{arith}
use native.Mathlib.Decide.{dec_lt}
use mathlib.Core.Path.{◌≡◌, refl, sym, ap₂, subst, ◌∙◌}
use mathlib.Core.Bool.{Bool, true, false, ◌&&◌, ◌||◌, not, cond}
use lib.Dec.{ltb, leb}
use borrow.Author.Tests.{ltb-true, leb-true, lt-ltb, le-ltb}
use Rattle.model.specs.Call.{Edit, remove, update_with, reset, insert, append, prepend, relocate, trim, trim_start, trim_end}
use Rattle.model.specs.Call.{freeze, trim_lines, indent_with, listed}
use Rattle.model.proofs.Lists.{and_left, and_right, clash}
use Rattle.model_join.specs.Tests.{Zone, bytes, head_zone, tail_zone, no_zone, left_zone, right_zone, zone, meets, is_move}
use Rattle.memory.specs.Layout.{Place}
use Rattle.memory.specs.WellFormed.{among}
use Rattle.memory.proofs.Desks.{among_in, among_out}
use Rattle.join_apart.specs.Places.{stretch, place_of, fits_in}

-- ── two stretches ──
-- each starts before the other ends
overlap : Place → Place → Bool
overlap p q = ltb p.0 (q.0 + q.1) && ltb q.0 (p.0 + p.1)

pub among_most : (r : Place) (b : ℕ) → among r b ≤ 1
among_most (at, n) b =
    elim (dec_lt b at) [
      | yes l ↦ omega (arith, among_out at n b (λ x y. omega arith))
      | no l ↦ elim (dec_lt b (at + n)) [
        | yes m ↦ omega (arith, among_in at n b (omega arith) m)
        | no m ↦ omega (arith, among_out at n b (λ x y. omega arith))
      ]
    ]

-- the first of two tests, or the second, is false
left_no : (x y z w : ℕ) → y ≤ x → ltb x y && ltb z w ≡ false
left_no x y z w h = rw (le-ltb x y h)

right_no : (x y z w : ℕ) → w ≤ z → ltb x y && ltb z w ≡ false
right_no x y z w h = elim (dec_lt x y) [ yes l ↦ rw (lt-ltb x y l, le-ltb z w h) | no l ↦ rw (le-ltb x y (omega arith)) ]

both_yes : (x y z w : ℕ) → x < y → z < w → ltb x y && ltb z w ≡ true
both_yes x y z w h k = rw (lt-ltb x y h, lt-ltb z w k)

-- two tests that are true together
same_test : (x y z w : ℕ) → (x < y → z < w) → (z < w → x < y) → ltb x y ≡ ltb z w
same_test x y z w f g = elim (dec_lt x y) [ yes l ↦ lt-ltb x y l ∙ sym (lt-ltb z w (f l)) | no l ↦ le-ltb x y (omega arith) ∙ sym (go (dec_lt z w) l) ]
  where
    go : Dec (z < w) → (x < y → ⊥) → ltb z w ≡ false
    go (yes m) n = absurd (n (g m))
    go (no m) n = le-ltb z w (omega arith)

module _ (p0 p1 q0 q1 : ℕ) where
  -- a place in both
  meet_at : 0 < p1 → 0 < q1 → overlap (p0, p1) (q0, q1) ≡ true → ((b : ℕ) → among (p0, p1) b + among (q0, q1) b ≤ 1) → ⊥
  unfolding overlap
  meet_at h k e f =
      let x : p0 < q0 + q1 = ltb-true p0 (q0 + q1) (and_left _ _ e) in
      let y : q0 < p0 + p1 = ltb-true q0 (p0 + p1) (and_right (ltb p0 (q0 + q1)) _ e) in
      elim (dec_lt p0 q0) [
        | yes l ↦ omega (arith, f q0, among_in p0 p1 q0 (omega arith) y, among_in q0 q1 q0 (omega arith) (omega arith))
        | no l ↦ omega (arith, f p0, among_in p0 p1 p0 (omega arith) (omega arith), among_in q0 q1 p0 (omega arith) x)
      ]

  -- none in both
  none_both : overlap (p0, p1) (q0, q1) ≡ false → (b : ℕ) → among (p0, p1) b + among (q0, q1) b ≤ 1
  unfolding overlap
  none_both e b =
      elim (dec_lt p0 (q0 + q1)) [
        | yes l ↦ elim (dec_lt q0 (p0 + p1)) [
          | yes m ↦ clash (both_yes p0 (q0 + q1) q0 (p0 + p1) l m) e
          | no m ↦ elim (dec_lt b q0) [
            | yes k ↦ omega (arith, among_most (p0, p1) b, among_out q0 q1 b (λ x y. omega arith))
            | no k ↦ omega (arith, among_most (q0, q1) b, among_out p0 p1 b (λ x y. omega arith))
          ]
        ]
        | no l ↦ elim (dec_lt b p0) [
          | yes k ↦ omega (arith, among_most (q0, q1) b, among_out p0 p1 b (λ x y. omega arith))
          | no k ↦ omega (arith, among_most (p0, p1) b, among_out q0 q1 b (λ x y. omega arith))
        ]
      ]

-- ── two reaches ──
-- a reach inside a source of n bytes
abbrev Inside : ℕ → Zone → Type 0
Inside n (bytes a b) = (a < b) × (b ≤ n)
Inside n head_zone = Unit {0}
Inside n tail_zone = Unit {0}
Inside n no_zone = Unit {0}

-- a listed edit without one is a move
abbrev is_none : Zone → Bool
is_none (bytes a b) = false
is_none head_zone = false
is_none tail_zone = false
is_none no_zone = true

-- it takes a place
wide_stretch : (n : ℕ) (z : Zone) → Inside n z → 0 < (stretch n z).1
wide_stretch n (bytes a b) h = omega arith
wide_stretch n head_zone h = omega arith
wide_stretch n tail_zone h = omega arith
wide_stretch n no_zone h = omega arith

bytes_meet : (a b c d : ℕ) → a < b → c < d → ((ltb a b && ltb c d) && (ltb a d && ltb c b)) || false ≡ overlap (a + 1, b - a) (c + 1, d - c)
unfolding overlap
bytes_meet a b c d h k =
    rw (lt-ltb a b h, lt-ltb c d k)
    (or_false (ltb a d && ltb c b)
    ∙ ap₂ (λ (x y : Bool). x && y) (same_test a d (a + 1) (c + 1 + (d - c)) (λ l. omega arith) (λ l. omega arith))
    (same_test c b (c + 1) (a + 1 + (b - a)) (λ l. omega arith) (λ l. omega arith)))
  where
    or_false : (x : Bool) → x || false ≡ x
    or_false true = refl
    or_false false = refl

-- one behind the other
second_first : (p q : Place) → q.0 + q.1 ≤ p.0 → false ≡ overlap p q
unfolding overlap
second_first p q h = sym (left_no p.0 (q.0 + q.1) q.0 (p.0 + p.1) h)

first_first : (p q : Place) → p.0 + p.1 ≤ q.0 → false ≡ overlap p q
unfolding overlap
first_first p q h = sym (right_no p.0 (q.0 + q.1) q.0 (p.0 + p.1) h)

one_place : (at : ℕ) → true ≡ overlap (at, 1) (at, 1)
unfolding overlap
one_place at = sym (both_yes at (at + 1) at (at + 1) (omega arith) (omega arith))

reach_places : (n : ℕ) (z w : Zone) → Inside n z → Inside n w → meets z w || (is_none z && is_none w) ≡ overlap (stretch n z) (stretch n w)
reach_places n (bytes a b) (bytes c d) h k = bytes_meet a b c d h.0 k.0
reach_places n (bytes a b) head_zone h k = second_first (stretch n (bytes a b)) (stretch n head_zone) (omega arith)
reach_places n (bytes a b) tail_zone h k = first_first (stretch n (bytes a b)) (stretch n tail_zone) (omega arith)
reach_places n (bytes a b) no_zone h k = first_first (stretch n (bytes a b)) (stretch n no_zone) (omega arith)
reach_places n head_zone (bytes a b) h k = first_first (stretch n head_zone) (stretch n (bytes a b)) (omega arith)
reach_places n head_zone head_zone h k = one_place 0
reach_places n head_zone tail_zone h k = first_first (stretch n head_zone) (stretch n tail_zone) (omega arith)
reach_places n head_zone no_zone h k = first_first (stretch n head_zone) (stretch n no_zone) (omega arith)
reach_places n tail_zone (bytes a b) h k = second_first (stretch n tail_zone) (stretch n (bytes a b)) (omega arith)
reach_places n tail_zone head_zone h k = second_first (stretch n tail_zone) (stretch n head_zone) (omega arith)
reach_places n tail_zone tail_zone h k = one_place (n + 1)
reach_places n tail_zone no_zone h k = first_first (stretch n tail_zone) (stretch n no_zone) (omega arith)
reach_places n no_zone (bytes a b) h k = second_first (stretch n no_zone) (stretch n (bytes a b)) (omega arith)
reach_places n no_zone head_zone h k = second_first (stretch n no_zone) (stretch n head_zone) (omega arith)
reach_places n no_zone tail_zone h k = second_first (stretch n no_zone) (stretch n tail_zone) (omega arith)
reach_places n no_zone no_zone h k = one_place (n + 2)

-- ── two edits ──
left_inside : (n p : ℕ) → p ≤ n → Inside n (left_zone p)
left_inside n zero h = tt
left_inside n (suc p) h = (omega arith, h)

right_inside : (n p : ℕ) → Inside n (right_zone n p)
right_inside n p = elim (dec_lt p n) [ yes l ↦ rw (lt-ltb p n l) (omega arith, omega arith) | no l ↦ rw (le-ltb p n (omega arith)) tt ]

side_inside : (n p : ℕ) (left : Bool) → p ≤ n → Inside n (cond left (left_zone p) (right_zone n p))
side_inside n p true h = left_inside n p h
side_inside n p false h = right_inside n p

-- a range's tests
range_inside : (n a b : ℕ) → ltb a b && (leb a n && (leb b n && true)) ≡ true → Inside n (bytes a b)
range_inside n a b e =
    (ltb-true a b (and_left _ _ e), leb-true b n (and_left (leb b n) true (and_right (leb a n) (leb b n && true) (and_right (ltb a b) (leb a n && (leb b n && true)) e))))

inside : (n : ℕ) (e : Edit) → fits_in n e ≡ true → Inside n (zone n e)
unfolding fits_in
inside n (remove a b) h = range_inside n a b h
inside n (update_with a b t o) h = range_inside n a b h
inside n (reset a b) h = range_inside n a b h
inside n (insert p t left front) h = side_inside n p left (leb-true p n (and_left (leb p n) true h))
inside n (append t) h = tt
inside n (prepend t) h = tt
inside n (relocate a b to) h = tt
inside n (trim p) h = tt
inside n (trim_start p) h = tt
inside n (trim_end p) h = tt
inside n trim_lines h = tt
inside n (indent_with i l) h = tt
inside n (freeze a b) h = tt

left_some : (p : ℕ) → is_none (left_zone p) ≡ false
left_some zero = refl
left_some (suc p) = refl

right_some : (n p : ℕ) → is_none (right_zone n p) ≡ false
right_some n p = elim (dec_lt p n) [ yes l ↦ rw (lt-ltb p n l) | no l ↦ rw (le-ltb p n (omega arith)) ]

side_some : (n p : ℕ) (left : Bool) → is_none (cond left (left_zone p) (right_zone n p)) ≡ false
side_some n p true = left_some p
side_some n p false = right_some n p

move_none : (n : ℕ) (e : Edit) → listed e ≡ true → is_move e ≡ is_none (zone n e)
move_none n (remove a b) h = refl
move_none n (update_with a b t o) h = refl
move_none n (reset a b) h = refl
move_none n (insert p t left front) h = sym (side_some n p left)
move_none n (append t) h = refl
move_none n (prepend t) h = refl
move_none n (relocate a b to) h = refl
move_none n (trim p) h = clash h refl
move_none n (trim_start p) h = clash h refl
move_none n (trim_end p) h = clash h refl
move_none n trim_lines h = clash h refl
move_none n (indent_with i l) h = clash h refl
move_none n (freeze a b) h = clash h refl

module _ (n : ℕ) (x y : Edit) (lx : listed x ≡ true) (ly : listed y ≡ true) (fx : fits_in n x ≡ true) (fy : fits_in n y ≡ true) where
  both_tests : meets (zone n x) (zone n y) || (is_move x && is_move y) ≡ overlap (place_of n x) (place_of n y)
  unfolding place_of
  both_tests =
      ap₂ (λ (u v : Bool). meets (zone n x) (zone n y) || (u && v)) (move_none n x lx) (move_none n y ly)
      ∙ reach_places n (zone n x) (zone n y) (inside n x fx) (inside n y fy)

  -- apart: no place is taken by both
  pub pair_free : not (meets (zone n x) (zone n y)) ≡ true → not (is_move x && is_move y) ≡ true → (b : ℕ) → among (place_of n x) b + among (place_of n y) b ≤ 1
  pair_free h k b = none_both (place_of n x).0 (place_of n x).1 (place_of n y).0 (place_of n y).1 (sym both_tests ∙ neither_is (meets (zone n x) (zone n y)) (is_move x && is_move y) h k) b
    where
      neither_is : (u v : Bool) → not u ≡ true → not v ≡ true → u || v ≡ false
      neither_is true v h k = clash h refl
      neither_is false true h k = clash k refl
      neither_is false false h k = refl

  pub free_pair : ((b : ℕ) → among (place_of n x) b + among (place_of n y) b ≤ 1) → (not (meets (zone n x) (zone n y)) ≡ true) × (not (is_move x && is_move y) ≡ true)
  unfolding place_of
  free_pair f = go (meets (zone n x) (zone n y)) (is_move x && is_move y) both_tests
    where
      no_overlap : overlap (place_of n x) (place_of n y) ≡ true → ⊥
      no_overlap e =
          meet_at (place_of n x).0 (place_of n x).1 (place_of n y).0 (place_of n y).1 (wide_stretch n (zone n x) (inside n x fx)) (wide_stretch n (zone n y) (inside n y fy)) e f

      go : (u v : Bool) → u || v ≡ overlap (place_of n x) (place_of n y) → (not u ≡ true) × (not v ≡ true)
      go true v e = absurd (no_overlap (sym e))
      go false true e = absurd (no_overlap (sym e))
      go false false e = (refl, refl)

-- the last place is that of the move
below_stretch : (n : ℕ) (z : Zone) → Inside n z → (stretch n z).0 + (stretch n z).1 ≤ n + 3
below_stretch n (bytes a b) h = omega arith
below_stretch n head_zone h = omega arith
below_stretch n tail_zone h = omega arith
below_stretch n no_zone h = omega arith

pub place_below : (n : ℕ) (e : Edit) (p : Place) → fits_in n e ≡ true → p ≡ place_of n e → p.0 + p.1 ≤ n + 3
unfolding place_of
place_below n e p h q = subst (λ (x : Place). x.0 + x.1 ≤ n + 3) (sym q) (below_stretch n (zone n e) (inside n e h))
