-- Both lists as one list of calls, and what is read of them.
use mathlib.Core.Path.{◌≡◌, refl}
use mathlib.Core.List.{List, ◌++◌}
use mathlib.Core.Option.{Option, none, some}
use Prim.Native.Nat.{ℕ}
use Rattle.model.specs.Call.{Edit}
use Rattle.model_sheet.specs.Record.{Recorded}
use Rattle.model_sheet.specs.Sheet.{recorded_calls}
use Rattle.model_join.specs.Join.{list, both_lists}
use Rattle.model_join.proofs.Lists.{none_some, same_some, first_none, second_none, both_read}

-- the records of each
pub record Read (first second : List ℕ) (L : List Edit) : Type 0 where
  pub l : List Recorded
  pub l' : List Recorded
  pub first_read : list first ≡ some l
  pub second_read : list second ≡ some l'
  pub are : L ≡ recorded_calls l ++ recorded_calls l'

pub read_both : (first second : List ℕ) {L : List Edit} → both_lists first second ≡ some L → Read first second L
read_both first second {L} e = go (list first) (list second) refl refl
  where
    go : (o o' : Option (List Recorded)) → list first ≡ o → list second ≡ o' → Read first second L
    go none o' f g = none_some (first_none first second f) e
    go (some l) none f g = none_some (second_none first second g) e
    go (some l) (some l') f g = record { l = l; l' = l'; first_read = f; second_read = g; are = same_some e (both_read first second f g) }

-- none, read the other way round too
pub none_swapped : (first second : List ℕ) → both_lists first second ≡ none → both_lists second first ≡ none
none_swapped first second e = go (list first) (list second) refl refl
  where
    go : (o o' : Option (List Recorded)) → list first ≡ o → list second ≡ o' → both_lists second first ≡ none
    go none o' f g = second_none second first f
    go (some l) none f g = first_none second first g
    go (some l) (some l') f g = none_some e (both_read first second f g)
