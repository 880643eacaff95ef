-- From what the check decides and the inner call promises to what the exported call promises.
use mathlib.Core.Path.{◌≡◌, refl, subst}
use mathlib.Core.List.{List}
use Prim.Native.Nat.{ℕ}
use Rattle.model.specs.Call.{Edit, Report}
use Rattle.memory.specs.Layout.{magic_string_of}
use Rattle.memory.specs.WellFormed.{Full, Taken}
use Rattle.memory.specs.Calls.{Ran, Edited, Told, Reported, Checked}
use Rattle.memory.specs.declared.Answer.{Answer}
use Rattle.sheet_run.specs.SheetRan.{SheetDone, SheetRan}
pub use Rattle.check_well_formed.proofs.Told.{seen_none, seen_taken, seen_desk}

module _ {source t p s : List ℕ} where
  pub checked_yes : Taken source t p s → Checked source t p s 0
  checked_yes w = record { well_formed = λ _. refl; not_well_formed = λ n. absurd (n w) }

  pub checked_no : (Taken source t p s → ⊥) → Checked source t p s 2
  checked_no n = record { well_formed = λ w. absurd (n w); not_well_formed = λ _. refl }

  pub edited_yes : {e : Edit} {t' p' s' : List ℕ} {number value : ℕ} → Taken source t p s → Ran e source t p s t' p' s' number value
      → Edited e source t p s t' p' s' number value
  edited_yes w r = record { not_well_formed = λ n. absurd (n w); well_formed = λ _. r }

  pub edited_no : {e : Edit} → (Taken source t p s → ⊥) → Edited e source t p s t p s 2 0
  edited_no n = record { not_well_formed = λ _. (refl, refl, record { chunks = refl; pieces = refl; store = refl }); well_formed = λ w. absurd (n w) }

  pub reported_yes : {q : Report} {out out' : List ℕ} {number value : ℕ} → Taken source t p s → Told q (magic_string_of source t p s) out out' number value
      → Reported q source t p s out out' number value
  reported_yes w r = record { not_well_formed = λ n. absurd (n w); well_formed = λ _. r }

  pub reported_no : {q : Report} {out : List ℕ} → (Taken source t p s → ⊥) → Reported q source t p s out out 2 0
  reported_no n = record { not_well_formed = λ _. (refl, refl, refl); well_formed = λ w. absurd (n w) }

  -- the same call, by another name
  pub edited_as : {e e' : Edit} {t' p' s' : List ℕ} {number value : ℕ} → e ≡ e' → Edited e source t p s t' p' s' number value
      → Edited e' source t p s t' p' s' number value
  edited_as {t' = t'} {p' = p'} {s' = s'} {number} {value} q x = subst (λ (e : Edit). Edited e source t p s t' p' s' number value) q x

  pub reported_as : {q q' : Report} {out out' : List ℕ} {number value : ℕ} → q ≡ q' → Reported q source t p s out out' number value → Reported q' source t p s out out' number value
  reported_as {out = out} {out' = out'} {number = number} {value = value} e x = subst (λ (q : Report). Reported q source t p s out out' number value) e x

-- a sheet in tables of the full sizes, and in others
module _ {sheet t p s a : List ℕ} where
  pub sheet_yes : {t' p' s' a' : List ℕ} {r : Answer} → Full t p s → SheetDone sheet t p s a t' p' s' a' r → SheetRan sheet t p s a t' p' s' a' r
  sheet_yes z d = record { not_sized = λ n. absurd (n z); sized = λ _. d }

  pub sheet_no : (Full t p s → ⊥) → SheetRan sheet t p s a t p s a (record { number = 2; value = 0 })
  sheet_no n = record { not_sized = λ _. (refl, refl, record { chunks = refl; pieces = refl; store = refl }, refl); sized = λ z. absurd (n z) }
