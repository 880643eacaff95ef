-- Laws of what `Sums` in specs/ defines.
use mathlib.Core.Path.{◌≡◌, refl, sym, ap, ◌∙◌}
use mathlib.Core.Bool.{Bool, true, false}
use mathlib.Core.List.{List, [], ◌∷◌, ◌++◌, reverse, reverse-cons}
use Prim.Native.Nat.{ℕ, ◌+◌, ◌≤◌}
use native.Mathlib.Omega.{arith}
use Rattle.memory_table.specs.Ring.{Each}
use Rattle.memory_table.specs.Order.{Entry, entry_at, entries, order}
use Rattle.model.specs.Text.{sum}
use Rattle.model.proofs.Lists.{sum_append, sum_map}
use Rattle.trim_chunks.specs.Sums.{way}

pub sum_reverse : {A : Type 0} (f : A → ℕ) (l : List A) → sum f (reverse l) ≡ sum f l
sum_reverse f [] = refl
sum_reverse f (x ∷ l) = ap (sum f) (reverse-cons x l) ∙ sum_append f (reverse l) (x ∷ []) ∙ omega (arith, sum_reverse f l)

sum_way : (front : Bool) (f : ℕ → ℕ) (l : List ℕ) → sum f (way front l) ≡ sum f l
sum_way true f l = refl
sum_way false f l = sum_reverse f l

-- no row counts more
pub each_sum : (f g : ℕ → ℕ) (l : List ℕ) → Each (λ x. f x ≤ g x) l → sum f l ≤ sum g l
each_sum f g [] h = omega arith
each_sum f g (x ∷ l) h = omega (arith, h.0, each_sum f g l h.1)

-- but row i, which may count b more where a is taken off
pub but_one : (f g : ℕ → ℕ) (a b : ℕ) (us : List ℕ) (i : ℕ) (bs : List ℕ) → Each (λ x. f x ≤ g x) us → a + f i ≤ b + g i → Each (λ x. f x ≤ g x) bs
    → a + sum f (us ++ i ∷ bs) ≤ b + sum g (us ++ i ∷ bs)
but_one f g a b [] i bs h k j = omega (arith, k, each_sum f g bs j)
but_one f g a b (u ∷ us) i bs h k j = omega (arith, h.0, but_one f g a b us i bs h.1 k j)

-- the entries, by their rows
pub entries_sum : (front : Bool) (f : Entry → ℕ) (t : List ℕ) → sum f (entries t) ≡ sum (λ x. f (entry_at t x)) (way front (order t))
entries_sum front f t = sum_map (entry_at t) f (order t) ∙ sym (sum_way front (λ x. f (entry_at t x)) (order t))
