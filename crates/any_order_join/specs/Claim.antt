-- Document 02, L7, by the any-order rule: "The join is accepted if and only if the two lists together meet every premise of the any-order rule", and what each refusal says of them.
-- proofs/Theorem.antt has each statement under its name in small letters.
use Rattle.std.specs.Prelude.{ℕ, ◌+◌, ◌≡◌, List, ◌↔◌, length}
use Rattle.std.proofs.Math.Option.{none, some}
use Rattle.utf8.specs.Chars.{All}
use Rattle.model.specs.MagicString.{MagicString}
use Rattle.model.specs.Limits.{Limits}
use Rattle.model.specs.Call.{Edit, run, after}
use Rattle.model.specs.WellFormed.{WellFormed}
use Rattle.model_cuts.specs.Cuts.{cuts_in_all}
use Rattle.model_sheet.specs.Record.{Recorded}
use Rattle.model_sheet.specs.Sheet.{recorded_calls}
use Rattle.model_join.specs.Join.{list, both_lists, join}
use Rattle.any_order.specs.Claim.{EditsApart, Space, Premises, AllAccepted}

-- both are lists of records, and of their calls, those of the first before those of the second, P holds
abbrev pub OfBoth : (List Edit → Type 0) → List ℕ → List ℕ → Type 0
OfBoth P first second = (L : List Edit) × (both_lists first second ≡ some L) × P L

abbrev pub number : Limits → List ℕ → List ℕ → MagicString → ℕ
number k first second m = (join k first second m).shown.number

-- each call is accepted alone on this desk
abbrev pub Alone : Limits → MagicString → List Edit → Type 0
Alone k m L = All (λ e. (run k e m).number ≡ 0) L

-- ── when each number is given, on a well-formed desk ──
pub record Numbers (k : Limits) (m : MagicString) (first second : List ℕ) : Type 0 where
  -- "accepted if and only if .."
  pub accepted : (number k first second m ≡ 0) ↔ OfBoth (Premises k m) first second
  pub bad_list : (number k first second m ≡ 16) ↔ (both_lists first second ≡ none)
  -- "18, a reach, position, width, move or empty-source premise is broken"
  pub not_apart : (number k first second m ≡ 18) ↔ OfBoth (λ L. EditsApart (length m.source) L → ⊥) first second
  -- "19, some call is refused alone on the starting desk"
  pub refused_alone : (number k first second m ≡ 19) ↔ OfBoth (λ L. EditsApart (length m.source) L × (Alone k m L → ⊥)) first second
  -- "then 13 for the reckoned space"
  pub no_space : (number k first second m ≡ 13) ↔ OfBoth (λ L. EditsApart (length m.source) L × Alone k m L × (Space k m L → ⊥)) first second

abbrev pub JoinNumbers : Type 0
JoinNumbers = (k : Limits) (m : MagicString) (first second : List ℕ) → WellFormed k m → Numbers k m first second

-- ── what an accepted join leaves ──
-- "The joined desk is the one that the first list and then the second would leave": every call of both is accepted, and the value is the cuts of both lists
pub record Leaves (k : Limits) (m : MagicString) (first second : List ℕ) : Type 0 where
  pub l : List Recorded
  pub l' : List Recorded
  pub first_read : list first ≡ some l
  pub second_read : list second ≡ some l'
  pub first_accepted : AllAccepted k (recorded_calls l) m
  pub second_accepted : AllAccepted k (recorded_calls l') (after k (recorded_calls l) m)
  pub desk : (join k first second m).desk ≡ after k (recorded_calls l') (after k (recorded_calls l) m)
  pub cuts : (join k first second m).shown.value ≡ cuts_in_all k (recorded_calls l) m + cuts_in_all k (recorded_calls l') (after k (recorded_calls l) m)

abbrev pub JoinLeaves : Type 0
JoinLeaves = (k : Limits) (m : MagicString) (first second : List ℕ) → WellFormed k m → number k first second m ≡ 0 → Leaves k m first second

-- a refusal changes nothing and reports no cut
abbrev pub RefusalChangesNothing : Type 0
RefusalChangesNothing =
    (k : Limits) (m : MagicString) (first second : List ℕ) → (number k first second m ≡ 0 → ⊥)
    → ((join k first second m).desk ≡ m) × ((join k first second m).shown.value ≡ 0)

-- ── the other order ──
-- handed in the other way round, the two lists get the same number and value and leave the same desk
abbrev pub JoinCommutes : Type 0
JoinCommutes = (k : Limits) (m : MagicString) (first second : List ℕ) → WellFormed k m → join k second first m ≡ join k first second m
