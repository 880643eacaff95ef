-- What the any-order rule says of the exported join, whatever memory it is run on. proofs/Joins.antt proves it.
use Rattle.std.specs.Prelude.{ℕ, ◌≡◌, List, ◌↔◌}
use Rattle.std.proofs.Math.Option.{some}
use Rattle.utf8.specs.Chars.{All}
use Rattle.model.specs.Call.{Edit}
use Rattle.model_join.specs.Join.{both_lists}
use Rattle.any_order.specs.Claim.{Order, Premises}
use Rattle.any_order_join.specs.Claim.{OfBoth}
use Rattle.any_order_exported.specs.Runs.{Tables, Holds, desk_of, limits, Answer, EditRun, JoinCall}

-- of one join, by its answer and the tables that it left
pub record JoinedAlike (source first second : List ℕ) (T : Tables) (a : Answer) (T₁ : Tables) : Type 0 where
  -- "accepted if and only if the two lists together meet every premise of the any-order rule"
  pub accepted : (a.number ≡ 0) ↔ OfBoth (Premises (limits T) (desk_of source T)) first second
  -- the same calls made one by one by the exported edits, in any order, are all accepted and leave the same desk
  pub one_by_one : a.number ≡ 0 → (L L' : List Edit) → both_lists first second ≡ some L → Order L L'
      → (answers : List Answer) (T₂ : Tables) → EditRun source L' T answers T₂
      → All (λ x. x.number ≡ 0) answers × (desk_of source T₂ ≡ desk_of source T₁)
  -- the two lists handed in the other way round get the same answer and leave the same desk
  pub exchanged : (b : Answer) (T₂ : Tables) → JoinCall source second first T b T₂
      → (b.number ≡ a.number) × (b.value ≡ a.value) × (desk_of source T₂ ≡ desk_of source T₁)

abbrev pub JoinExported : Type 0
JoinExported =
    (source first second : List ℕ) (T : Tables) → Holds source T → (a : Answer) (T₁ : Tables) → JoinCall source first second T a T₁
    → JoinedAlike source first second T a T₁
