-- One record of a list, and what its call leaves.
use Rattle.std.specs.Prelude.{ℕ, ◌≡◌, List, ◌∷◌, drop}
use Rattle.std.proofs.Math.Option.{map}
use Rattle.model_sheet.specs.Record.{Recorded, records}
use Rattle.model_sheet.specs.Sheet.{call_of}
use Rattle.memory_used.specs.Above.{Leaves}
use Rattle.memory_used.specs.declared.Outcome.{Outcome}

-- the record at a place, and what its call leaves
pub record Stepped (r : List ℕ) (at : ℕ) (source t p s t' p' s' : List ℕ) (o : Outcome) (next : ℕ) : Type 0 where
  pub one : Recorded
  pub here : records (drop at r) ≡ map (λ l. one ∷ l) (records (drop next r))
  pub left : Leaves (call_of one) source t p s t' p' s' o
