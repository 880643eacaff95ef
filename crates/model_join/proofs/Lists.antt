-- A list that is handed in, by its bytes.
use Prim.Native.Nat.{ℕ, ◌≤◌, ◌<◌}
use native.Mathlib.Omega.{arith}
use mathlib.Core.Path.{◌≡◌, refl}
use mathlib.Core.Bool.{Bool, true, false, cond}
use mathlib.Core.List.{List, ◌++◌}
use mathlib.Core.Option.{Option, none, some, bind, map}
use lib.Dec.{leb}
use lib.ListN.{length}
use borrow.Author.Tests.{le-leb, lt-leb}
use Rattle.model.specs.Call.{Edit}
use Rattle.model_sheet.specs.Record.{Recorded, records}
use Rattle.model_sheet.specs.Sheet.{MOST_RECORDS, MOST_BYTES, few, recorded_calls}
use Rattle.model_join.specs.Join.{list, both_lists}

-- an option is none or has one value
pub none_some : {A X : Type 0} {o : Option A} {x : A} → o ≡ none → o ≡ some x → X
none_some e h = let z : ◌≡◌ {A = ℕ} 0 1 = cc in absurd (omega arith)

pub same_some : {A : Type 0} {o : Option A} {x y : A} → o ≡ some x → o ≡ some y → x ≡ y
same_some e h = cc

module _ (s : List ℕ) where
  pub list_long : MOST_BYTES < length s → list s ≡ none
  unfolding list
  list_long h = rw (lt-leb (length s) MOST_BYTES h) refl

  pub list_read : {l : List Recorded} → length s ≤ MOST_BYTES → records s ≡ some l → length l ≤ MOST_RECORDS → list s ≡ some l
  unfolding list bind
  list_read {l} h e f = rw (le-leb (length s) MOST_BYTES h, e, le-leb (length l) MOST_RECORDS f) refl

  -- no records, or too many
  pub list_broken : ((l : List Recorded) → records s ≡ some l → MOST_RECORDS < length l) → list s ≡ none
  unfolding list bind
  list_broken h = long (leb (length s) MOST_BYTES)
    where
      read : (o : Option (List Recorded)) → records s ≡ o → bind (records s) few ≡ none
      read none e = rw e refl
      read (some l) e = rw (e, lt-leb (length l) MOST_RECORDS (h l e)) refl

      long : (b : Bool) → cond b (bind (records s) few) none ≡ none
      long true = read (records s) refl
      long false = refl

module _ (first second : List ℕ) where
  pub first_none : list first ≡ none → both_lists first second ≡ none
  unfolding both_lists bind
  first_none e = rw e refl

  pub second_none : list second ≡ none → both_lists first second ≡ none
  unfolding both_lists bind
  second_none e = go (list first)
    where
      go : (o : Option (List Recorded)) → bind o (λ l. map {B = List Edit} (λ l'. recorded_calls l ++ recorded_calls l') (list second)) ≡ none
      go none = refl
      go (some l) = rw e refl

  pub both_read : {l l' : List Recorded} → list first ≡ some l → list second ≡ some l' → both_lists first second ≡ some (recorded_calls l ++ recorded_calls l')
  unfolding both_lists bind
  both_read e e' = rw (e, e') refl
