-- `update_with`: what its tests give.
use mathlib.Core.Path.{◌≡◌, refl}
use mathlib.Core.Bool.{Bool, true, false}
use mathlib.Core.List.{List, [], ◌∷◌}
use Prim.Native.Nat.{ℕ, ◌<◌}
use native.Mathlib.Omega.{arith}
use borrow.Author.Tests.{ne_eqb, eq-eqb, lt-ltb}
use Rattle.utf8.specs.Rfc3629.{utf8, between}
use Rattle.model.specs.Text.{all}
use Rattle.model.specs.MagicString.{MagicString, err}
use Rattle.model.specs.Update as update_rs
use Rattle.model.specs.Call.{update_with, steps, refused_before}
use Rattle.memory.specs.Layout.{magic_string_of}
use Rattle.memory.specs.WellFormed.{WellFormed}
use Rattle.memory.specs.Calls.{Ran}
use Rattle.edit_scratch.proofs.Tables.{ran_before, ran_same, refused_1, refused_3, not_refused}
use Rattle.edit_update.specs.Tests.{TestsSay}

steps_same : (a b : ℕ) (t : List ℕ) (o : Bool) (m : MagicString) → a ≡ b → steps (update_with a b t o) m ≡ err 5 m
unfolding update_rs.update_with
steps_same a b t o m e = rw (eq-eqb a b e)

steps_reversed : (a b : ℕ) (t : List ℕ) (o : Bool) (m : MagicString) → b < a → steps (update_with a b t o) m ≡ err 4 m
unfolding update_rs.update_with
steps_reversed a b t o m h = rw (ne_eqb a b (λ e. omega arith), lt-ltb b a h)

module _ {source t p s : List ℕ} (a b : ℕ) (text : List ℕ) (o : Bool) (w : WellFormed source t p s) where
  pub update_invalid : utf8 text ≡ false → Ran (update_with a b text o) source t p s t p s 1 0
  update_invalid h = ran_before (update_with a b text o) source t p s 0 1 w (refused_1 (update_with a b text o) source t p s refl (rw h)) refl

  module _ (v : utf8 text ≡ true) where
    pub update_outside : all (between source) (a ∷ b ∷ []) ≡ false → Ran (update_with a b text o) source t p s t p s 3 0
    update_outside h = ran_before (update_with a b text o) source t p s 2 3 w (refused_3 (update_with a b text o) source t p s refl (rw v) h) refl

    module _ (h : all (between source) (a ∷ b ∷ []) ≡ true) where
      pub update_asked : refused_before (magic_string_of source t p s) (update_with a b text o) ≡ 0
      update_asked = not_refused (update_with a b text o) source t p s refl (rw v) h refl

      pub update_no_width : a ≡ b → Ran (update_with a b text o) source t p s t p s 5 0
      update_no_width e = ran_same (update_with a b text o) source t p s 5 w update_asked (steps_same a b text o (magic_string_of source t p s) e)

      pub update_reversed : b < a → Ran (update_with a b text o) source t p s t p s 4 0
      update_reversed e = ran_same (update_with a b text o) source t p s 4 w update_asked (steps_reversed a b text o (magic_string_of source t p s) e)

pub says_refused : (a b : ℕ) (text : List ℕ) {source : List ℕ} (r : ℕ) → (r ≡ 0 → ⊥)
    → ((o : Bool) (t p s : List ℕ) → WellFormed source t p s → Ran (update_with a b text o) source t p s t p s r 0) → TestsSay a b text source r
says_refused a b text r n h = record { refused = λ _. h; ascends = λ z. absurd (n z); asked = λ z. absurd (n z) }
