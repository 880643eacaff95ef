-- `reset` and `freeze`: what their tests give.
use mathlib.Core.Path.{◌≡◌, refl, ap, ◌∙◌}
use mathlib.Core.Bool.{true, false, cond}
use mathlib.Core.List.{List, [], ◌∷◌}
use mathlib.Core.Logic.{inr}
use Prim.Native.Nat.{ℕ, ◌≤◌, ◌<◌}
use native.Mathlib.Omega.{arith}
use lib.Dec.{ltb, eqb}
use lib.ListN.{length}
use borrow.Author.Tests.{ne_eqb, eq-eqb, le-ltb, lt-ltb}
use Rattle.utf8.specs.Rfc3629.{between}
use Rattle.model.specs.Text.{all}
use Rattle.model.specs.MagicString.{MagicString, ok, err}
use Rattle.model.specs.Frozen as frozen_parts
use Rattle.model.specs.Reset as reset_rs
use Rattle.model.specs.Call.{asked, steps, idle, refused_before}
use Rattle.memory.specs.Layout.{magic_string_of}
use Rattle.memory.specs.WellFormed.{WellFormed}
use Rattle.memory.specs.Calls.{Ran}
use Rattle.memory.proofs.Desks.{source_of}
use Rattle.memory_list.specs.declared.Change.{Change}
use Rattle.memory_list.specs.declared.Change.TheVariants.{Clear, Freeze}
use Rattle.edit_scratch.proofs.Tables.{ran_before, ran_same, refused_3, not_refused}
use Rattle.edit_change_range_steps.specs.Range.{change_of, refusals, EmptyAt, RangeRan}
use Rattle.edit_reset.specs.Within.{edit_of, Resets}

pub resets_empty : (x : Change) → Resets x → EmptyAt x
resets_empty (Clear v) h = inr h
resets_empty Freeze h = tt

-- the two calls differ by their change alone
steps_are : (x : Change) → Resets x → (a b : ℕ) (m : MagicString)
    → steps (edit_of x a b) m ≡ cond (eqb a b) (ok m) (cond (ltb b a) (err 4 m) (cond (ltb (length m.source) b) (err 10 m) (change_of x a b m)))
unfolding reset_rs.reset frozen_parts.freeze
steps_are (Clear v) h a b m = rw h
steps_are Freeze h a b m = refl

module _ {source t p s : List ℕ} (x : Change) (y : Resets x) (a b : ℕ) (w : WellFormed source t p s) where
  abbrev desk : MagicString
  desk = magic_string_of source t p s

  size : length desk.source ≡ length source
  size = ap length (source_of source t p s)

  outside : (z : Change) → all (between source) (a ∷ b ∷ []) ≡ false → refused_before desk (edit_of z a b) ≡ 3
  outside (Clear v) h = refused_3 (edit_of (Clear v) a b) source t p s refl refl h
  outside Freeze h = refused_3 (edit_of Freeze a b) source t p s refl refl h

  placed : (z : Change) → all (between source) (a ∷ b ∷ []) ≡ true → refused_before desk (edit_of z a b) ≡ 0
  placed (Clear v) h = not_refused (edit_of (Clear v) a b) source t p s refl refl h refl
  placed Freeze h = not_refused (edit_of Freeze a b) source t p s refl refl h refl

  busy : (z : Change) → a < b → idle (edit_of z a b) ≡ false
  busy (Clear v) h = ne_eqb a b (λ e. omega arith)
  busy Freeze h = ne_eqb a b (λ e. omega arith)

  leaves : (z : Change) → (asked (edit_of z a b)).leaving ≡ refusals z
  leaves (Clear v) = refl
  leaves Freeze = refl

  pub within_outside : all (between source) (a ∷ b ∷ []) ≡ false → Ran (edit_of x a b) source t p s t p s 3 0
  within_outside h = ran_before (edit_of x a b) source t p s 2 3 w (outside x h) refl

  module _ (h : all (between source) (a ∷ b ∷ []) ≡ true) where
    pub within_nothing : a ≡ b → Ran (edit_of x a b) source t p s t p s 0 0
    within_nothing e = ran_same (edit_of x a b) source t p s 0 w (placed x h) (steps_are x y a b desk ∙ rw (eq-eqb a b e))

    pub within_reversed : b < a → Ran (edit_of x a b) source t p s t p s 4 0
    within_reversed e = ran_same (edit_of x a b) source t p s 4 w (placed x h) (steps_are x y a b desk ∙ rw (ne_eqb a b (λ z. omega arith), lt-ltb b a e))

    module _ (e : a < b) where
      past : cond (eqb a b) (ok desk) (cond (ltb b a) (err 4 desk) (cond (ltb (length desk.source) b) (err 10 desk) (change_of x a b desk)))
          ≡ cond (ltb (length source) b) (err 10 desk) (change_of x a b desk)
      past = rw (ne_eqb a b (λ z. omega arith), le-ltb b a (omega arith), size)

      pub within_past : length source < b → Ran (edit_of x a b) source t p s t p s 10 0
      within_past k = ran_same (edit_of x a b) source t p s 10 w (placed x h) (steps_are x y a b desk ∙ past ∙ rw (lt-ltb (length source) b k))

      pub within_range : b ≤ length source → {t' p' s' : List ℕ} {r c : ℕ} → RangeRan x a b source t p s t' p' s' r c → Ran (edit_of x a b) source t p s t' p' s' r c
      within_range k f = f (edit_of x a b) (placed x h) (steps_are x y a b desk ∙ past ∙ rw (le-ltb (length source) b k)) (busy x e) (leaves x)
