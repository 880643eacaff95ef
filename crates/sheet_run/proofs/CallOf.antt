-- The call of a record, by its kind, as the dispatcher makes it.
use Prim.Native.Nat.{ℕ}
use mathlib.Core.Path.{◌≡◌, sym, ap, subst}
use mathlib.Core.Bool.{Bool, true}
use mathlib.Core.List.{List}
use borrow.Author.Tests.{ne_eqb}
use Rattle.model.specs.Text.{Text}
use Rattle.model.specs.Call.{Edit, remove, update_with, reset, insert, relocate}
use Rattle.model_sheet.specs.Record.{Recorded}
use Rattle.model_sheet.specs.Sheet.{inserts_left, inserts_front, call_of}
use Rattle.memory_used.specs.declared.Outcome.{Outcome}
use Rattle.memory_used.specs.Above.{Leaves}

-- what one call leaves, another that is the same leaves
pub leaves_as : {e e' : Edit} {source t p s t' p' s' : List ℕ} {o : Outcome} → e ≡ e' → Leaves e source t p s t' p' s' o → Leaves e' source t p s t' p' s' o
leaves_as {source} {t} {p} {s} {t'} {p'} {s'} {o} q h = subst (λ x. Leaves x source t p s t' p' s' o) q h

module _ (a b c : ℕ) (t : Text) (k : ℕ) where
  -- a record of kind k with these fields
  abbrev fields : ℕ → Recorded
  fields k = record { kind = k; a = a; b = b; c = c; text = t }

  pub of_remove : k ≡ 1 → remove a b ≡ call_of (fields k)
  unfolding call_of
  of_remove e = sym (ap (λ k. call_of (fields k)) e)

  pub of_update : k ≡ 2 → update_with a b t true ≡ call_of (fields k)
  unfolding call_of
  of_update e = sym (ap (λ k. call_of (fields k)) e)

  pub of_reset : k ≡ 3 → reset a b ≡ call_of (fields k)
  unfolding call_of
  of_reset e = sym (ap (λ k. call_of (fields k)) e)

  pub of_relocate : k ≡ 8 → relocate a b c ≡ call_of (fields k)
  unfolding call_of
  of_relocate e = sym (ap (λ k. call_of (fields k)) e)

  pub of_insert : {left front : Bool} → left ≡ inserts_left k → front ≡ inserts_front k → (k ≡ 1 → ⊥) → (k ≡ 2 → ⊥) → (k ≡ 3 → ⊥) → (k ≡ 8 → ⊥)
      → insert a t left front ≡ call_of (fields k)
  unfolding call_of
  of_insert l f h₁ h₂ h₃ h₄ = rw (l, f, ne_eqb k 1 h₁, ne_eqb k 2 h₂, ne_eqb k 3 h₃, ne_eqb k 8 h₄)
