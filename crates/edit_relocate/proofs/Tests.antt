-- What the tests of `relocate` say, test by test.
use mathlib.Core.Path.{◌≡◌}
use mathlib.Core.Bool.{true, false, ◌&&◌}
use mathlib.Core.List.{List}
use mathlib.Core.Logic.{◌⊎◌, inl, inr}
use Prim.Native.Nat.{ℕ, ◌≤◌, ◌<◌}
use lib.Dec.{leb}
use borrow.Author.Tests.{le-leb, lt-leb}
use Rattle.model.specs.Call.{relocate}
use Rattle.memory.specs.WellFormed.{WellFormed}
use Rattle.memory.specs.Calls.{Ran}
use Rattle.edit_relocate.specs.Tests.{TestsSay}

module _ (a b to : ℕ) where
  -- the place against the range
  pub is_inside : a ≤ to → to ≤ b → leb a to && leb to b ≡ true
  is_inside h k = rw (le-leb _ _ h, le-leb _ _ k)

  pub is_outside : ((a ≤ to) × (b < to)) ⊎ (to < a) → leb a to && leb to b ≡ false
  is_outside (inl h) = rw (le-leb _ _ h.0, lt-leb _ _ h.1)
  is_outside (inr h) = rw (lt-leb _ _ h)

  pub says_refused : (source : List ℕ) (r : ℕ) → (r ≡ 0 → ⊥) → ((t p s : List ℕ) → WellFormed source t p s → Ran (relocate a b to) source t p s t p s r 0) → TestsSay a b to source r
  says_refused source r n h = record { refused = λ _. h; idle = λ z. absurd (n z); past = λ z. absurd (n z) }
