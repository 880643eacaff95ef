-- Laws of what `Range` in specs/ defines.
use mathlib.Core.Path.{◌≡◌, ◌∙◌}
use mathlib.Core.List.{List, [], ◌∷◌, ◌++◌}
use Prim.Native.Nat.{ℕ, ◌≤◌, ◌<◌}
use native.Mathlib.Omega.{arith}
use Rattle.memory_table.specs.Ring.{Each, Edge}
use Rattle.memory_table.proofs.Ring.{each_left, each_right, links_right}
use Rattle.memory_table.specs.Order.{order, next_of, prev_of, count_of, Linked}
use Rattle.memory_list.specs.Swap.{last_of}
use Rattle.memory_list.proofs.Swap.{last_edge, Tail, links_split, each_last, tail_le}

-- ── the row behind the last ──
-- row l leads to the first of ys, or back to row 0
abbrev pub LeadsTo : List ℕ → ℕ → List ℕ → Type 0
LeadsTo t l [] = next_of t l ≡ 0
LeadsTo t l (y ∷ ys) = (next_of t l ≡ y) × (0 < y)

module _ (t : List ℕ) (k : Linked t) (us : List ℕ) (f : ℕ) (xs ys : List ℕ) (place : order t ≡ us ++ f ∷ (xs ++ ys)) where
  P : ℕ → Type 0
  P x = (0 < x) × (x ≤ count_of t)

  all_in : Each P (us ++ f ∷ (xs ++ ys))
  unfolding order P
  all_in = rw place at k.ring.inside

  from_f : Each P (f ∷ (xs ++ ys))
  from_f = each_right P us (f ∷ (xs ++ ys)) all_in

  pub last_in : last_of f xs ≤ count_of t
  unfolding P
  last_in = (each_last P f xs from_f.0 (each_left P xs ys from_f.1)).1

  -- where the links from row f along xs lead
  behind : (y : ℕ) × Edge (next_of t) (prev_of t) (last_of f xs) y × Tail (Edge (next_of t) (prev_of t)) y ys 0
  unfolding order
  behind =
      let E = Edge (next_of t) (prev_of t) in
      let l = links_split E f xs ys 0 (links_right E 0 us f (xs ++ ys) 0 (rw place at k.ring.links)) in
      (l.0, last_edge E f xs l.0 l.1, l.2)

  pub next_in : next_of t (last_of f xs) ≤ count_of t
  unfolding P
  next_in = omega (arith, behind.1.fwd, tail_le (Edge (next_of t) (prev_of t)) (count_of t) behind.0 ys behind.2 (each_right P xs ys from_f.1))

  pub leads_to : LeadsTo t (last_of f xs) ys
  unfolding P
  leads_to = go ys behind.0 behind.1 behind.2 (each_right P xs ys from_f.1)
    where
      go : (zs : List ℕ) (y : ℕ) → Edge (next_of t) (prev_of t) (last_of f xs) y → Tail (Edge (next_of t) (prev_of t)) y zs 0 → Each P zs → LeadsTo t (last_of f xs) zs
      go [] y e h i = e.fwd ∙ h
      go (z ∷ zs) y e h i = (e.fwd ∙ h.0, i.0.0)
