-- The lent lists at the front of the scratch ones.
use Rattle.std.specs.Prelude.{◌≡◌, List, ◌++◌, ℕ, length, drop}

pub record Loaded (t p s t₀ p₀ s₀ t' p' s' : List ℕ) : Type 0 where
  pub chunks : t' ≡ t ++ drop (length t) t₀
  pub pieces : p' ≡ p ++ drop (length p) p₀
  pub store : s' ≡ s ++ drop (length s) s₀
