-- A walk over the records of a list: what holds of the calls of those that were passed.
use Prim.Native.Nat.{ℕ, ◌≤◌, ◌<◌}
use mathlib.Core.Path.{◌≡◌, refl, sym, ap, subst, ◌∙◌}
use mathlib.Core.List.{List, [], ◌∷◌, ◌++◌, append_assoc, append-nil}
use mathlib.Core.Option.{none, some}
use lib.ListN.{length, drop}
use Rattle.model.specs.Call.{Edit}
use Rattle.model_sheet.specs.Record.{Recorded, next_record, records}
use Rattle.model_sheet.specs.Sheet.{call_of, recorded_calls}
use Rattle.sheet_records.specs.Found.{Taken}
use Rattle.sheet_records.proofs.Behind.{behind, behind_end, behind_bad}

-- of the calls L, some belong to the records before a place of s, and P holds of them; the others to those from there on
pub record Upto (P : List Edit → Type 0) (s : List ℕ) (at : ℕ) (L : List Edit) : Type 0 where
  pub passed : List Edit
  pub rest : List Recorded
  pub held : P passed
  pub left : records (drop at s) ≡ some rest
  pub are : L ≡ passed ++ recorded_calls rest

-- the same with one call between them
pub record Between (P : List Edit → Type 0) (s : List ℕ) (e : Edit) (next : ℕ) (L : List Edit) : Type 0 where
  pub passed : List Edit
  pub rest : List Recorded
  pub held : P passed
  pub left : records (drop next s) ≡ some rest
  pub are : L ≡ passed ++ (e ∷ recorded_calls rest)

module _ (P : List Edit → Type 0) where
  upto_start : {s : List ℕ} {l : List Recorded} → P [] → records s ≡ some l → Upto P s 0 (recorded_calls l)
  upto_start {l = l} h q = record { passed = []; rest = l; held = h; left = q; are = refl }

  -- of any records that s is
  abbrev pub Walking : List ℕ → ℕ → Type 0
  Walking s at = (l : List Recorded) → records s ≡ some l → Upto P s at (recorded_calls l)

  pub walking_start : {s : List ℕ} → P [] → Walking s 0
  walking_start h l q = upto_start h q

  module _ {s : List ℕ} {at : ℕ} {L : List Edit} (u : Upto P s at L) where
    pub upto_bad : {X : Type 0} → at < length s → next_record (drop at s) ≡ none → X
    upto_bad h e = behind_bad s at u.left h e

    -- at the end all were passed
    pub upto_end : length s ≤ at → P L
    upto_end h =
        subst P (sym (u.are ∙ ap (λ r. u.passed ++ recorded_calls r) (behind_end s at u.left h) ∙ append-nil u.passed)) u.held

    -- the record at hand is between
    pub upto_here : {r : Recorded} {next : ℕ} → Taken s at r next → Between P s (call_of r) next L
    upto_here g =
        let b = behind s at u.left g in
        record { passed = u.passed; rest = b.rest; held = u.held; left = b.onward; are = u.are ∙ ap (λ l. u.passed ++ recorded_calls l) b.first }

  -- one further
  pub upto_on : {s : List ℕ} {e : Edit} {next : ℕ} {L : List Edit} (Q : List Edit → Type 0) (h : Between P s e next L) → Q (h.passed ++ (e ∷ [])) → Upto Q s next L
  upto_on {e = e} Q h q =
      record {
        passed = h.passed ++ (e ∷ []);
        rest = h.rest;
        held = q;
        left = h.left;
        are = h.are ∙ sym (append_assoc h.passed (e ∷ []) (recorded_calls h.rest));
      }
