-- White space by the tests that the code makes: a key, or one of three ranges.
use mathlib.Core.Path.{◌≡◌, refl}
use mathlib.Core.Bool.{Bool, true, false, ◌||◌, and-false}
use mathlib.Core.Logic.{⊎_elim, inl, inr}
use mathlib.Core.List.{List, [], ◌∷◌}
use Prim.Native.Nat.{ℕ, ◌<◌, ◌≤◌}
use native.Mathlib.Omega.{arith}
use types.Run.{OneOf}
use lib.Dec.{eqb}
use borrow.Author.Tests.{le-leb, lt-leb, eq-eqb, ne_eqb}
use Rattle.utf8.specs.WhiteSpace.{within, one_of, spaces, white_space}

or_true : (b : Bool) → (b || true) ≡ true
or_true true = refl
or_true false = refl

some_key : (ks : List ℕ) (v : ℕ) → OneOf ks v → one_of ks v ≡ true
some_key [] v h = absurd h
some_key (k ∷ []) v h = simp (eq-eqb v k h)
some_key (k ∷ l ∷ ks) v h = ⊎_elim (λ e. simp (eq-eqb v k e)) (λ m. rw (some_key (l ∷ ks) v m) (or_true (eqb v k))) h

no_key : (ks : List ℕ) (v : ℕ) → (OneOf ks v → ⊥) → one_of ks v ≡ false
no_key [] v h = refl
no_key (k ∷ []) v h = simp (ne_eqb v k h)
no_key (k ∷ l ∷ ks) v h = rw (ne_eqb v k (λ e. h (inl e)), no_key (l ∷ ks) v (λ m. h (inr m)))

under : (l h v : ℕ) → v < l → within l h v ≡ false
under l h v k = simp (lt-leb l v k)

over : (l h v : ℕ) → h < v → within l h v ≡ false
over l h v k = simp (lt-leb v h k, and-false)

amid : (l h v : ℕ) → l ≤ v → v ≤ h → within l h v ≡ true
amid l h v j k = simp (le-leb l v j, le-leb v h k)

pub by_key : (v : ℕ) → OneOf spaces v → white_space v ≡ true
unfolding white_space
by_key v h = rw (some_key spaces v h)

-- in no key's place: by the region that the code has found
module _ (v : ℕ) (none : OneOf spaces v → ⊥) where
  pub to_8 : v < 0x9 → white_space v ≡ false
  unfolding white_space
  to_8 h = rw (no_key spaces v none, under 0x9 0xD v h, under 0x2000 0x200A v (omega arith), under 0x2028 0x2029 v (omega arith))

  pub to_d : 0x9 ≤ v → v < 0xE → white_space v ≡ true
  unfolding white_space
  to_d h k = rw (no_key spaces v none, amid 0x9 0xD v h (omega arith))

  pub to_1fff : 0xE ≤ v → v < 0x2000 → white_space v ≡ false
  unfolding white_space
  to_1fff h k = rw (no_key spaces v none, over 0x9 0xD v h, under 0x2000 0x200A v k, under 0x2028 0x2029 v (omega arith))

  pub to_200a : 0x2000 ≤ v → v < 0x200B → white_space v ≡ true
  unfolding white_space
  to_200a h k = rw (no_key spaces v none, over 0x9 0xD v (omega arith), amid 0x2000 0x200A v h (omega arith))

  pub to_2027 : 0x200B ≤ v → v < 0x2028 → white_space v ≡ false
  unfolding white_space
  to_2027 h k = rw (no_key spaces v none, over 0x9 0xD v (omega arith), over 0x2000 0x200A v h, under 0x2028 0x2029 v k)

  pub to_2029 : 0x2028 ≤ v → v < 0x202A → white_space v ≡ true
  unfolding white_space
  to_2029 h k = rw (no_key spaces v none, over 0x9 0xD v (omega arith), over 0x2000 0x200A v (omega arith), amid 0x2028 0x2029 v h (omega arith))

  pub from_202a : 0x202A ≤ v → white_space v ≡ false
  unfolding white_space
  from_202a h = rw (no_key spaces v none, over 0x9 0xD v (omega arith), over 0x2000 0x200A v (omega arith), over 0x2028 0x2029 v h)
