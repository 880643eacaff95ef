-- Whether the desk of the scratch tables keeps the limits of the lent ones, and what the lent ones then hold.
use Rattle.std.specs.Prelude.{◌≡◌, Bool, true, false, List, [], ℕ}
use Rattle.model.specs.Limits.{within}
use Rattle.memory.specs.Layout.{magic_string_of}
use Rattle.memory.specs.WellFormed.{limits_of, Lengths}
use Rattle.memory.specs.Calls.{Same}
use Rattle.edit_rebuild.specs.Rebuilt.{Rebuilt}

-- t p s the scratch tables; t₀ p₀ s₀ the lent tables before, t' p' s' after; r whether the desk was written
pub record Written (t p s t₀ p₀ s₀ t' p' s' : List ℕ) (r : Bool) : Type 0 where
  pub lengths : Lengths t₀ p₀ s₀ t' p' s'
  pub keeps : r ≡ within (limits_of t₀ p₀ s₀) (magic_string_of [] t p s)
  pub rebuilt : r ≡ true → Rebuilt t p s t' p' s'
  pub same : r ≡ false → Same t₀ p₀ s₀ t' p' s'
