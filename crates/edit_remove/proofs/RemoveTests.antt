-- `remove`: what its tests give.
use mathlib.Core.Path.{◌≡◌, refl}
use mathlib.Core.Bool.{true, false}
use mathlib.Core.List.{List, [], ◌∷◌}
use Prim.Native.Nat.{ℕ, ◌<◌}
use native.Mathlib.Omega.{arith}
use borrow.Author.Tests.{ne_eqb, eq-eqb, le-ltb, lt-ltb}
use Rattle.utf8.specs.Rfc3629.{between}
use Rattle.model.specs.Text.{all}
use Rattle.model.specs.MagicString.{MagicString, ok, err}
use Rattle.model.specs.Movement as movement_rs
use Rattle.model.specs.Call.{remove, steps, idle}
use Rattle.memory.specs.Layout.{magic_string_of}
use Rattle.memory.specs.WellFormed.{WellFormed}
use Rattle.memory.specs.Calls.{Ran}
use Rattle.memory_list.specs.declared.Change.TheVariants.{Clear}
use Rattle.edit_scratch.proofs.Tables.{ran_before, ran_same, refused_3, not_refused}
use Rattle.edit_change_range_steps.specs.Range.{change_of, RangeRan}

steps_same : (a b : ℕ) (m : MagicString) → a ≡ b → steps (remove a b) m ≡ ok m
unfolding movement_rs.remove
steps_same a b m e = rw (eq-eqb a b e)

steps_reversed : (a b : ℕ) (m : MagicString) → b < a → steps (remove a b) m ≡ err 4 m
unfolding movement_rs.remove
steps_reversed a b m h = rw (ne_eqb a b (λ e. omega arith), lt-ltb b a h)

steps_range : (a b : ℕ) (m : MagicString) → a < b → steps (remove a b) m ≡ change_of (Clear 0) a b m
unfolding movement_rs.remove
steps_range a b m h = rw (ne_eqb a b (λ e. omega arith), le-ltb b a (omega arith))

busy : (a b : ℕ) → a < b → idle (remove a b) ≡ false
busy a b h = ne_eqb a b (λ e. omega arith)

module _ {source t p s : List ℕ} (a b : ℕ) (w : WellFormed source t p s) where
  pub remove_outside : all (between source) (a ∷ b ∷ []) ≡ false → Ran (remove a b) source t p s t p s 3 0
  remove_outside h = ran_before (remove a b) source t p s 2 3 w (refused_3 (remove a b) source t p s refl refl h) refl

  module _ (h : all (between source) (a ∷ b ∷ []) ≡ true) where
    pub remove_nothing : a ≡ b → Ran (remove a b) source t p s t p s 0 0
    remove_nothing e = ran_same (remove a b) source t p s 0 w (not_refused (remove a b) source t p s refl refl h refl) (steps_same a b (magic_string_of source t p s) e)

    pub remove_reversed : b < a → Ran (remove a b) source t p s t p s 4 0
    remove_reversed e = ran_same (remove a b) source t p s 4 w (not_refused (remove a b) source t p s refl refl h refl) (steps_reversed a b (magic_string_of source t p s) e)

    pub remove_range : a < b → {t' p' s' : List ℕ} {r c : ℕ} → RangeRan (Clear 0) a b source t p s t' p' s' r c → Ran (remove a b) source t p s t' p' s' r c
    remove_range e f = f (remove a b) (not_refused (remove a b) source t p s refl refl h refl) (steps_range a b (magic_string_of source t p s) e) (busy a b e) refl
