-- The tests of `update_with`, before any cut.
use Rattle.std.specs.Prelude.{◌≡◌, Bool, List, ℕ, ◌<◌}
use Rattle.model.specs.Call.{update_with, refused_before}
use Rattle.memory.specs.Layout.{magic_string_of}
use Rattle.memory.specs.WellFormed.{WellFormed}
use Rattle.memory.specs.Calls.{Ran}

-- r is their number. A call that they refuse leaves any desk as it was, with either switch; every other is past them
pub record TestsSay (a b : ℕ) (text source : List ℕ) (r : ℕ) : Type 0 where
  pub refused : (r ≡ 0 → ⊥) → (o : Bool) (t p s : List ℕ) → WellFormed source t p s → Ran (update_with a b text o) source t p s t p s r 0
  pub ascends : r ≡ 0 → a < b
  pub asked : r ≡ 0 → (o : Bool) (t p s : List ℕ) → WellFormed source t p s → refused_before (magic_string_of source t p s) (update_with a b text o) ≡ 0
