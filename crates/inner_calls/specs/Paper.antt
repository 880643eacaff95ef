-- What a paper of inner calls leaves.
use Rattle.std.specs.Prelude.{ℕ, ◌≡◌, List}
use Rattle.memory.specs.WellFormed.{WellFormed}
use Rattle.memory.specs.Calls.{Same}
use Rattle.memory.specs.declared.Answer.{Answer}

-- On any memory: 2 and nothing written where it holds no well-formed desk; else one is left, and some calls are made.
pub record PaperMade (source t p s numbers t' p' s' numbers' : List ℕ) (r : Answer) : Type 0 where
  pub not_well_formed : (WellFormed source t p s → ⊥) → (r.number ≡ 2) × (r.value ≡ 0) × Same t p s t' p' s' × (numbers' ≡ numbers)
  pub well_formed : WellFormed source t p s → (r.number ≡ 0) × WellFormed source t' p' s'
