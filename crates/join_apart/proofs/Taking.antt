-- The edits of a list are apart, with one move at most, exactly if no place is taken twice.
use Prim.Native.Nat.{ℕ, ◌+◌, ◌≤◌, ◌<◌}
use native.Mathlib.Omega.{arith}
use native.Mathlib.Decide.{dec_lt}
use mathlib.Core.Path.{◌≡◌, refl}
use mathlib.Core.Bool.{Bool, true, ◌&&◌, not}
use mathlib.Core.List.{List}
use Rattle.utf8.specs.Chars.{All, nil, cons}
use Rattle.model.specs.Text.{all}
use Rattle.model.specs.Call.{Edit, listed}
use Rattle.model.proofs.Lists.{both, and_left, and_right, all_true}
use Rattle.model_join.specs.Tests.{pairs, zone, meets, is_move, all_apart, one_move}
use Rattle.memory.specs.WellFormed.{among}
use Rattle.join_apart.specs.Places.{place_of, taken, fits_in}
use Rattle.join_apart.proofs.Zones.{among_most, pair_free, free_pair}

-- a listed edit with the right width and positions
abbrev pub Fit : ℕ → Edit → Type 0
Fit n e = (listed e ≡ true) × (fits_in n e ≡ true)

module _ (n : ℕ) where
  -- the two tests of a pair
  abbrev off : Edit → Edit → Bool
  off x y = not (meets (zone n x) (zone n y))

  abbrev alone : Edit → Edit → Bool
  alone x y = not (is_move x && is_move y)

  -- ── apart, so not twice ──
  none_taken : (b k : ℕ) → 0 < k → {xs : List Edit} → All (λ y. k + among (place_of n y) b ≤ 1) xs → taken n xs b ≡ 0
  none_taken b k h nil = refl
  none_taken b k h (cons {x = y} p ps) = omega (arith, p, none_taken b k h ps)

  each_free : (x : Edit) → Fit n x → (b : ℕ) {xs : List Edit} → All (Fit n) xs → All (λ y. off x y ≡ true) xs → All (λ y. alone x y ≡ true) xs
      → All (λ y. among (place_of n x) b + among (place_of n y) b ≤ 1) xs
  each_free x fx b nil nil nil = nil
  each_free x fx b (cons {x = y} f fs) (cons o os) (cons a as') =
      cons (pair_free n x y fx.0 f.0 fx.1 f.1 o a b) (each_free x fx b fs os as')

  pub apart_once : {L : List Edit} → All (Fit n) L → all_apart n L ≡ true → one_move L ≡ true → (b : ℕ) → taken n L b ≤ 1
  apart_once nil h k b = omega arith
  apart_once (cons {x = x} {xs = xs} f fs) h k b =
      let rest = apart_once fs (and_right (all (off x) xs) (pairs off xs) h) (and_right (all (alone x) xs) (pairs alone xs) k) b in
      let each = each_free x f b fs (all_true (off x) xs (and_left (all (off x) xs) (pairs off xs) h)) (all_true (alone x) xs (and_left (all (alone x) xs) (pairs alone xs) k)) in
      elim (dec_lt 0 (among (place_of n x) b)) [
        | yes l ↦ omega (arith, none_taken b (among (place_of n x) b) l each, among_most (place_of n x) b)
        | no l ↦ omega (arith, rest)
      ]

  -- ── not twice, so apart ──
  each_apart : (x : Edit) → Fit n x → {xs : List Edit} → All (Fit n) xs → ((b : ℕ) → among (place_of n x) b + taken n xs b ≤ 1)
      → (all (off x) xs ≡ true) × (all (alone x) xs ≡ true)
  each_apart x fx nil h = (refl, refl)
  each_apart x fx (cons {x = y} f fs) h =
      let here = free_pair n x y fx.0 f.0 fx.1 f.1 (λ b. omega (arith, h b)) in
      let rest = each_apart x fx fs (λ b. omega (arith, h b)) in
      (both here.0 rest.0, both here.1 rest.1)

  pub once_apart : {L : List Edit} → All (Fit n) L → ((b : ℕ) → taken n L b ≤ 1) → (all_apart n L ≡ true) × (one_move L ≡ true)
  once_apart nil h = (refl, refl)
  once_apart (cons {x = x} f fs) h =
      let here = each_apart x f fs h in
      let rest = once_apart fs (λ b. omega (arith, h b)) in
      (both here.0 rest.0, both here.1 rest.1)
