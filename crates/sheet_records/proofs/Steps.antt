-- One step of a walk over records, in the bytes in which it began.
use Prim.Native.Nat.{ℕ, ◌≤◌, ◌<◌}
use mathlib.Core.Path.{◌≡◌, sym, ap, subst, ◌∙◌}
use mathlib.Core.List.{List}
use mathlib.Core.Option.{none}
use lib.ListN.{length, drop}
use Rattle.std.specs.Prelude.{Result, Ok, Err, Some, None}
use Rattle.model_sheet.specs.Record.{next_record}
use Rattle.sheet_records.specs.declared.Record.{Record}
use Rattle.sheet_records.specs.declared.BadRecord.{BadRecord}
use Rattle.sheet_records.specs.declared.Records.{Records}
use Rattle.sheet_records.specs.Found.{recorded, Taken, walk_bytes, walk_at, Gives}

-- the first step
pub step_first : {x y : Records} {s : List ℕ} (P : ℕ → Type 0) → x ≡ y → (walk_bytes y ≡ s) × (walk_at y ≡ 0) → P 0 → (walk_bytes x ≡ s) × P (walk_at x)
step_first P e f h = (ap walk_bytes e ∙ f.0, subst P (sym (ap walk_at e ∙ f.1)) h)

module _ (x y : Records) {s : List ℕ} (here : walk_bytes x ≡ s) where
  -- a record
  pub step_record : {o : Result Record BadRecord} {r : Record} → Gives x (Some o) y → o ≡ Ok r → Taken s (walk_at x) (recorded r) (walk_at y) × (walk_bytes y ≡ s)
  step_record {o} {r} g e =
      let h : Gives x (Some (Ok r)) y = subst (λ z. Gives x (Some z) y) e g in
      (subst (λ l. Taken l (walk_at x) (recorded r) (walk_at y)) here h.0, h.1 ∙ here)

  -- no whole record
  pub step_bad : {o : Result Record BadRecord} {b : BadRecord} → Gives x (Some o) y → o ≡ Err b → (walk_at x < length s) × (next_record (drop (walk_at x) s) ≡ none)
  step_bad {o} {b} g e =
      let h : Gives x (Some (Err b)) y = subst (λ z. Gives x (Some z) y) e g in
      subst (λ l. (walk_at x < length l) × (next_record (drop (walk_at x) l) ≡ none)) here (h.0, h.1)

  -- the end
  pub step_end : Gives x None y → length s ≤ walk_at x
  step_end g = subst (λ l. length l ≤ walk_at x) here g
