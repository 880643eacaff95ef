-- What the tests give, and the call behind them.
use mathlib.Core.Path.{◌≡◌, refl}
use mathlib.Core.Bool.{Bool, true, false, not}
use mathlib.Core.List.{List, [], ◌∷◌}
use Prim.Native.Nat.{ℕ}
use Rattle.utf8.specs.Rfc3629.{utf8, between}
use Rattle.model.specs.MagicString.{MagicString, ok}
use Rattle.model.specs.Call.{Edit, insert, options_valid, texts, positions, whole, steps, idle}
use Rattle.memory.specs.WellFormed.{WellFormed}
use Rattle.memory.specs.Calls.{Ran}
use Rattle.edit_scratch.proofs.Tables.{ran_before, refused_1, refused_3, not_refused}
use Rattle.edit_insert_side.specs.Insertion.{whole_add}
use Rattle.edit_insert_side.specs.declared.Spot.TheVariants.{At, Whole}
use Rattle.edit_insert_side.specs.Calls.{InsertRan}
use Rattle.edit_insert.specs.Addition.{addition}

-- what `append` and `prepend` are given and do
record Given (e : Edit) (tail : Bool) (text : List ℕ) : Type 0 where
  options : options_valid e ≡ true
  its_texts : texts e ≡ text ∷ []
  its_positions : positions e ≡ []
  not_whole : whole e ≡ false
  busy : idle e ≡ false
  does : (m : MagicString) → steps e m ≡ ok (whole_add tail (not tail) text m)

given : (tail : Bool) (text : List ℕ) → Given (addition tail text) tail text
given true text = record { options = refl; its_texts = refl; its_positions = refl; not_whole = refl; busy = refl; does = λ m. refl }
given false text = record { options = refl; its_texts = refl; its_positions = refl; not_whole = refl; busy = refl; does = λ m. refl }

module _ {source t p s : List ℕ} (text : List ℕ) (w : WellFormed source t p s) where
  module _ (q : ℕ) (left front : Bool) where
    pub insert_invalid : utf8 text ≡ false → Ran (insert q text left front) source t p s t p s 1 0
    insert_invalid h = ran_before (insert q text left front) source t p s 0 1 w (refused_1 (insert q text left front) source t p s refl (rw h)) refl

    pub insert_outside : utf8 text ≡ true → between source q ≡ false → Ran (insert q text left front) source t p s t p s 3 0
    insert_outside h k = ran_before (insert q text left front) source t p s 2 3 w (refused_3 (insert q text left front) source t p s refl (rw h) (rw k)) refl

    pub insert_ran : utf8 text ≡ true → between source q ≡ true → {t' p' s' : List ℕ} {r c : ℕ}
        → InsertRan (At q left) front text source t p s t' p' s' r c → Ran (insert q text left front) source t p s t' p' s' r c
    insert_ran h k f = f (insert q text left front) (not_refused (insert q text left front) source t p s refl (rw h) (rw k) refl) (λ m. refl) refl

  pub addition_invalid : (tail : Bool) → utf8 text ≡ false → Ran (addition tail text) source t p s t p s 1 0
  addition_invalid tail h =
      let g = given tail text in
      ran_before (addition tail text) source t p s 0 1 w (refused_1 (addition tail text) source t p s g.options (rw (g.its_texts, h))) refl

  pub addition_ran : (tail : Bool) → utf8 text ≡ true → {t' p' s' : List ℕ} {r c : ℕ} → InsertRan (Whole tail) (not tail) text source t p s t' p' s' r c
      → Ran (addition tail text) source t p s t' p' s' r c
  addition_ran tail h f =
      let e = addition tail text in
      let g = given tail text in
      f e (not_refused e source t p s g.options (rw (g.its_texts, h)) (rw g.its_positions) (rw g.not_whole)) g.does g.busy
