-- A paper on memory that holds no desk, and on one that does.
use Prim.Native.Nat.{ℕ}
use mathlib.Core.Path.{◌≡◌, refl, subst}
use mathlib.Core.List.{List}
use Rattle.std.specs.Prelude.{Option, Some, None}
use Rattle.memory.specs.WellFormed.{WellFormed}
use Rattle.memory_used.specs.declared.Used.{Used}
use Rattle.memory_used.specs.Above.{Above, Desk}
use Rattle.check_well_formed.specs.Seen.{Sees}
use Rattle.inner_calls.specs.Paper.{PaperMade}

-- no desk, or one and what it uses
module _ (source t p s : List ℕ) {r : Option Used} where
  pub seen_none : r ≡ None → Sees (WellFormed source t p s) t p s r → WellFormed source t p s → ⊥
  seen_none e h = subst (Sees (WellFormed source t p s) t p s) e h

  pub seen_desk : (u : Used) → r ≡ Some u → Sees (WellFormed source t p s) t p s r → Desk source t p s u
  seen_desk u e h =
      let x : WellFormed source t p s × Above t p s u = subst (Sees (WellFormed source t p s) t p s) e h in
      record { well_formed = x.0; above = x.1 }

module _ {source t p s numbers : List ℕ} where
  pub refused : (WellFormed source t p s → ⊥) → PaperMade source t p s numbers t p s numbers (record { number = 2; value = 0 })
  refused none =
      record {
        not_well_formed = λ _. (refl, refl, record { chunks = refl; pieces = refl; store = refl }, refl);
        well_formed = λ w. absurd (none w);
      }

  pub made : {t' p' s' numbers' : List ℕ} (n : ℕ) → WellFormed source t p s → WellFormed source t' p' s'
      → PaperMade source t p s numbers t' p' s' numbers' (record { number = 0; value = n })
  made n w w' = record { not_well_formed = λ none. absurd (none w); well_formed = λ _. (refl, w') }
