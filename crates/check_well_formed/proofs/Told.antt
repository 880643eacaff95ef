-- What the check has seen, taken apart: for those who call it.
use mathlib.Core.Path.{◌≡◌, subst}
use Rattle.std.specs.Prelude.{Option, Some, None}
use mathlib.Core.List.{List}
use Prim.Native.Nat.{ℕ}
use Rattle.memory.specs.WellFormed.{Taken}
use Rattle.memory_used.specs.declared.Used.{Used}
use Rattle.memory_used.specs.Above.{Above, Desk}
use Rattle.check_well_formed.specs.Seen.{Sees}

-- no desk, or one and what it uses
module _ (source t p s : List ℕ) {r : Option Used} where
  pub seen_none : r ≡ None → Sees (Taken source t p s) t p s r → Taken source t p s → ⊥
  seen_none e h = subst (Sees (Taken source t p s) t p s) e h

  module _ (u : Used) (e : r ≡ Some u) (h : Sees (Taken source t p s) t p s r) where
    seen : Taken source t p s × Above t p s u
    seen = subst (Sees (Taken source t p s) t p s) e h

    pub seen_taken : Taken source t p s
    seen_taken = seen.0

    pub seen_desk : Desk source t p s u
    seen_desk = record { well_formed = seen.0.well_formed; above = seen.1 }
