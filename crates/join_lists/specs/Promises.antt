-- What a join promises of every input.
use Rattle.std.specs.Prelude.{ℕ, ◌≡◌, List, []}
use Rattle.std.proofs.Math.Option.{some}
use Rattle.model.specs.Call.{Outcome}
use Rattle.model_join.specs.Join.{both_lists, join}
use Rattle.memory.specs.Layout.{magic_string_of}
use Rattle.memory.specs.WellFormed.{limits_of, Lengths, WellFormed, Taken}
use Rattle.memory.specs.Calls.{Same}
use Rattle.memory.specs.declared.Answer.{Answer}

-- what the model says of two lists on the desk in these tables
abbrev pub outcome : List ℕ → List ℕ → List ℕ → List ℕ → List ℕ → List ℕ → Outcome
outcome first second source t p s = join (limits_of t p s) first second (magic_string_of source t p s)

-- On a well-formed desk: number, value and the desk after are the model's. Numbering, places in the store and unused bytes are the program's choice; every choice is a well-formed
-- desk that reads as the model's. A refusal, and a join of no calls, change no byte
pub record Joins (first second source t p s t' p' s' : List ℕ) (r : Answer) : Type 0 where
  pub number_is : r.number ≡ (outcome first second source t p s).shown.number
  pub value_is : r.value ≡ (outcome first second source t p s).shown.value
  pub desk_is : magic_string_of source t' p' s' ≡ (outcome first second source t p s).desk
  pub well_formed : WellFormed source t' p' s'
  pub lengths : Lengths t p s t' p' s'
  pub refused : (r.number ≡ 0 → ⊥) → Same t p s t' p' s'
  pub no_calls : both_lists first second ≡ some [] → Same t p s t' p' s'

-- the same on any memory: 2 and nothing written where it holds no well-formed desk
pub record Joined (first second source t p s t' p' s' : List ℕ) (r : Answer) : Type 0 where
  pub not_well_formed : (Taken source t p s → ⊥) → (r.number ≡ 2) × (r.value ≡ 0) × Same t p s t' p' s'
  pub well_formed : Taken source t p s → Joins first second source t p s t' p' s' r
