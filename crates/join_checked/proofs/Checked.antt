-- From what the check of the desk sees and the inner call promises to what the call promises of any memory.
use mathlib.Core.Path.{◌≡◌}
use mathlib.Core.List.{List}
use Prim.Native.Nat.{ℕ}
use Rattle.memory.specs.WellFormed.{Taken}
use Rattle.memory.specs.declared.Answer.{Answer}
use Rattle.memory.proofs.Desks.{all_same}
use Rattle.join_lists.specs.Promises.{Joins, Joined}

module _ {first second source t p s : List ℕ} where
  pub joined_no : {r : Answer} → (Taken source t p s → ⊥) → r.number ≡ 2 → r.value ≡ 0 → Joined first second source t p s t p s r
  joined_no n e v = record { not_well_formed = λ _. (e, v, all_same t p s); well_formed = λ d. absurd (n d) }

  pub joined_yes : {t' p' s' : List ℕ} {r : Answer} → Taken source t p s → Joins first second source t p s t' p' s' r → Joined first second source t p s t' p' s' r
  joined_yes d x = record { not_well_formed = λ n. absurd (n d); well_formed = λ _. x }
