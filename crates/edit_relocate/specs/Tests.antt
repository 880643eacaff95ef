-- The tests of `relocate`, before any cut.
use Rattle.std.specs.Prelude.{◌≡◌, List, ℕ}
use Rattle.model.specs.Call.{relocate}
use Rattle.memory.specs.WellFormed.{WellFormed}
use Rattle.memory.specs.Calls.{Ran}
use Rattle.edit_relocate_scratch.specs.Tested.{Tested}

-- r is their number. A call that they refuse, or of a range of no width, leaves any desk as it was; every other is past them
pub record TestsSay (a b to : ℕ) (source : List ℕ) (r : ℕ) : Type 0 where
  pub refused : (r ≡ 0 → ⊥) → (t p s : List ℕ) → WellFormed source t p s → Ran (relocate a b to) source t p s t p s r 0
  pub idle : r ≡ 0 → a ≡ b → (t p s : List ℕ) → WellFormed source t p s → Ran (relocate a b to) source t p s t p s r 0
  pub past : r ≡ 0 → (a ≡ b → ⊥) → (t p s : List ℕ) → WellFormed source t p s → Tested a b to source t p s
