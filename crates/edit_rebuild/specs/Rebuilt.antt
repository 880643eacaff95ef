-- What the end of a call on scratch tables promises: the scratch desk is written into the lent tables if it keeps the limits.
use Rattle.std.specs.Prelude.{◌≡◌, true, false, List, [], ℕ}
use Rattle.model.specs.Limits.{within}
use Rattle.memory.specs.Layout.{magic_string_of}
use Rattle.memory.specs.WellFormed.{limits_of, Lengths, Readable, HoldsEach, Disjoint}
use Rattle.memory.specs.Calls.{Same}

-- t' p' s' hold the desk that t p s hold, as a well-formed desk is held but for its limits
pub record Rebuilt (t p s t' p' s' : List ℕ) : Type 0 where
  pub readable : Readable t' p' s'
  pub each : HoldsEach t'
  pub disjoint : Disjoint t' p'
  pub desk : (source : List ℕ) → magic_string_of source t' p' s' ≡ magic_string_of source t p s

-- t p s the scratch tables; t₀ p₀ s₀ the lent tables before, t' p' s' after; r and c the number and the cuts of the steps, r' and c' the call's
pub record Finished (t p s t₀ p₀ s₀ t' p' s' : List ℕ) (r c r' c' : ℕ) : Type 0 where
  pub lengths : Lengths t₀ p₀ s₀ t' p' s'
  pub fits : within (limits_of t₀ p₀ s₀) (magic_string_of [] t p s) ≡ true → (r' ≡ r) × Rebuilt t p s t' p' s'
  pub breaks : within (limits_of t₀ p₀ s₀) (magic_string_of [] t p s) ≡ false → (r' ≡ 13) × Same t₀ p₀ s₀ t' p' s'
  pub cuts : within (limits_of t₀ p₀ s₀) (magic_string_of [] t p s) ≡ true → c' ≡ c
  pub no_cuts : within (limits_of t₀ p₀ s₀) (magic_string_of [] t p s) ≡ false → c' ≡ 0
