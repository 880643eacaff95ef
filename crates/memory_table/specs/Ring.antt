-- A circular list, linked both ways, with the sentinel 0: what it is to be linked, that the order is what following the links gives,
-- that no index stands in it twice, and how the order changes.
use Rattle.std.specs.Prelude.{◌≡◌, List, [], ◌∷◌, ℕ, zero, suc, ◌≤◌, ◌<◌}

-- P of every element
abbrev pub Each {ℓ} : {A : Type ℓ} → (A → Type 0) → List A → Type 0
Each P [] = Unit {0}
Each P (x ∷ xs) = P x × Each P xs

abbrev pub Not : ℕ → ℕ → Type 0
Not i x = x ≡ i → ⊥

-- the indices that n steps along nx give, from i on
abbrev pub follow : (ℕ → ℕ) → ℕ → ℕ → List ℕ
follow nx zero i = []
follow nx (suc n) i = i ∷ follow nx n (nx i)

-- a leads to b and b back to a
pub record Edge (nx pv : ℕ → ℕ) (a b : ℕ) : Type 0 where
  pub fwd : nx a ≡ b
  pub bwd : pv b ≡ a

-- from i through xs to j
abbrev pub Links : (ℕ → ℕ → Type 0) → ℕ → List ℕ → ℕ → Type 0
Links E i [] j = E i j
Links E i (x ∷ xs) j = E i x × Links E x xs j

-- n chunks, 1 to n, in a ring with 0
pub record Ring (nx pv : ℕ → ℕ) (n : ℕ) : Type 0 where
  pub links : Links (Edge nx pv) 0 (follow nx n (nx 0)) 0
  pub inside : Each (λ x. (0 < x) × (x ≤ n)) (follow nx n (nx 0))
