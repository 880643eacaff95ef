-- `update_with` on the lent tables.
use Rattle.std.specs.Prelude.{◌≡◌, ℕ}
use Rattle.memory_layout.specs.Refusals.{number_of}
use Rattle.memory_used.specs.declared.Used.{Used}
use Rattle.memory_used.specs.declared.Outcome.{Outcome}

-- steps on the lent tables: their number and cuts, and a bound that ends behind a text that they stored
pub record Settled (number cuts : ℕ) (l : Used) (end : ℕ) (o : Outcome) : Type 0 where
  pub number_is : number_of o.status ≡ number
  pub cuts_are : o.cuts ≡ cuts
  pub came : number ≡ 0 → o.used ≡ record { pieces = l.pieces; row = l.row; byte = end }
  pub refused : (number ≡ 0 → ⊥) → o.used ≡ l
