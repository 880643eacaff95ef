-- A list read from its other end.
use mathlib.Core.Path.{◌≡◌}
use mathlib.Core.List.{List, [], ◌∷◌, reverse, reverse_aux}
use Prim.Native.Nat.{ℕ, ◌+◌}
use native.Mathlib.Omega.{arith}
use Rattle.memory_table.specs.Ring.{Each, Edge, Links}
use Rattle.model.specs.Text.{sum}

flip_edge : {nx pv : ℕ → ℕ} {a b : ℕ} → Edge nx pv a b → Edge pv nx b a
flip_edge e = record { fwd = e.bwd; bwd = e.fwd }

-- what was read stands before r, to which the first row's edge leads
links_onto : (nx pv : ℕ → ℕ) (a : ℕ) (xs r : List ℕ) (b c : ℕ) → ((y : ℕ) → Edge nx pv a y → Links (Edge pv nx) y r c) → Links (Edge nx pv) a xs b
    → Links (Edge pv nx) b (reverse_aux xs r) c
links_onto nx pv a [] r b c f l = f b l
links_onto nx pv a (x ∷ xs) r b c f l = links_onto nx pv x xs (x ∷ r) b c (λ y e. (flip_edge e, f x l.0)) l.1

pub flip_links : (nx pv : ℕ → ℕ) (a : ℕ) (xs : List ℕ) (b : ℕ) → Links (Edge nx pv) a xs b → Links (Edge pv nx) b (reverse xs) a
flip_links nx pv a xs b l = links_onto nx pv a xs [] b a (λ y e. flip_edge e) l

each_onto : (P : ℕ → Type 0) (xs r : List ℕ) → Each P xs → Each P r → Each P (reverse_aux xs r)
each_onto P [] r p q = q
each_onto P (x ∷ xs) r p q = each_onto P xs (x ∷ r) p.1 (p.0, q)

pub flip_each : (P : ℕ → Type 0) (xs : List ℕ) → Each P xs → Each P (reverse xs)
flip_each P xs p = each_onto P xs [] p tt

sum_onto : (f : ℕ → ℕ) (xs r : List ℕ) → sum f (reverse_aux xs r) ≡ sum f xs + sum f r
sum_onto f [] r = omega arith
sum_onto f (x ∷ xs) r = omega (arith, sum_onto f xs (x ∷ r))

pub flip_sum : (f : ℕ → ℕ) (xs : List ℕ) → sum f (reverse xs) ≡ sum f xs
flip_sum f xs = omega (arith, sum_onto f xs [])
