-- Laws of lists and tests.
use Prim.Native.Nat.{ℕ, zero, suc}
use mathlib.Core.List.{List}
use lib.ListN.{get_or, take, drop}
use Rattle.utf8.specs.Chars.{All, nil, cons}

module _ {A : Type 0} {P : A → Type 0} where
  pub all_take : (n : ℕ) {xs : List A} → All P xs → All P (take n xs)
  all_take zero ps = nil
  all_take (suc n) nil = nil
  all_take (suc n) (cons p ps) = cons p (all_take n ps)

  pub all_drop : (n : ℕ) {xs : List A} → All P xs → All P (drop n xs)
  all_drop zero ps = ps
  all_drop (suc n) nil = nil
  all_drop (suc n) (cons p ps) = all_drop n ps

  pub all_get : (d : A) → P d → (n : ℕ) {xs : List A} → All P xs → P (get_or xs n d)
  all_get d q zero nil = q
  all_get d q (suc n) nil = q
  all_get d q zero (cons p ps) = p
  all_get d q (suc n) (cons p ps) = all_get d q n ps
