-- A desk laid out anew in tables as long: a call is judged there as on the desk itself.
use mathlib.Core.Path.{◌≡◌, refl, sym, ap, ap₂, ◌∙◌}
use mathlib.Core.List.{List}
use Prim.Native.Nat.{ℕ}
use lib.Dec.{eqb}
use borrow.Author.Tests.{ne_eqb}
use Rattle.std.specs.Prelude.{Result, Ok, Err, is_ok}
use Rattle.memory_layout.specs.declared.refusal.Refusal.{Refusal}
use Rattle.sheet_run.proofs.Codes.{code_above}
use Rattle.model.specs.Call.{run}
use Rattle.model_sheet.specs.Record.{Recorded}
use Rattle.model_sheet.specs.Sheet.{call_of}
use Rattle.memory.specs.WellFormed.{Lengths, WellFormed}
use Rattle.memory.proofs.Desks.{limits_as}
use Rattle.memory_used.specs.declared.Used.{Used}
use Rattle.memory_used.specs.declared.Outcome.{Outcome}
use Rattle.memory_layout.specs.Refusals.{code, number_of}
use Rattle.memory_used.specs.Above.{Leaves}
use Rattle.edit_room_above.proofs.Finishing.{formed_usable}
use Rattle.edit_small_tables.specs.Small.{Fits, LaidIn}
use Rattle.edit_small_tables.proofs.Trying.{fits_as}
use Rattle.join_alone.specs.Alone.{Accepted}

pub copy_fits : {source t p s t₀ p₀ s₀ : List ℕ} → WellFormed source t p s → Lengths t p s t₀ p₀ s₀ → Fits t p s t₀ p₀ s₀
copy_fits w l = let u = formed_usable w in fits_as l (record { sized = u.sized; within_is = u.within_is })

-- the lengths behind a call that keeps them
pub lengths_on : {t p s t₀ p₀ s₀ t1 p1 s1 : List ℕ} → Lengths t p s t₀ p₀ s₀ → Lengths t₀ p₀ s₀ t1 p1 s1 → Lengths t p s t1 p1 s1
lengths_on l h = record { chunks = h.chunks ∙ l.chunks; pieces = h.pieces ∙ l.pieces; store = h.store ∙ l.store }

pub copy_accepted : (one : Recorded) {source t p s t1 p1 s1 t2 p2 s2 : List ℕ} {used : Used} {o : Outcome} → LaidIn t p s t1 p1 s1 used → Lengths t p s t1 p1 s1
    → Leaves (call_of one) source t1 p1 s1 t2 p2 s2 o → Accepted source t p s one (eqb (number_of o.status) 0)
copy_accepted one {source} d l x =
    ap (λ n. eqb n 0) (x.ran.number_is ∙ ap₂ (λ k m. (run k (call_of one) m).number) (limits_as l) (d.rebuilt.desk source))

-- accepted, by the status
pub accepted_is : {A : Type 0} (r : Result A Refusal) → is_ok r ≡ eqb (number_of r) 0
accepted_is (Ok x) = refl
accepted_is (Err e) = sym (ne_eqb (code e) 0 (code_above e))
