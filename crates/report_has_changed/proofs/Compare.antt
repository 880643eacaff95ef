-- The walk of `has_changed`: what is left of the source, and of the texts.
use mathlib.Core.Path.{◌≡◌, refl, ap, sym, ◌∙◌}
use mathlib.Core.Bool.{Bool, true, false, ◌&&◌, not, and_assoc}
use mathlib.Core.List.{List, [], ◌∷◌, ◌++◌}
use Prim.Native.Nat.{ℕ}
use lib.Dec.{eqb}
use native.Mathlib.Omega.{arith}
use borrow.Author.Tests.{ne_eqb}
use lib.ListN.{length, take, drop}
use lib.Pointwise.{pointwise}
use Rattle.utf8.specs.Chars.{concat}
use Rattle.model.specs.Text.{Text, same}
use Rattle.model.specs.MagicString.{to_string}
use Rattle.model.specs.Call.{show, value_of, bit, has_changed as HasChanged}
use Rattle.memory.specs.Layout.{magic_string_of}
use Rattle.memory.specs.WellFormed.{WellFormed}
use Rattle.memory.specs.Calls.{Told}
use Rattle.model_preservation.proofs.Reports.{has_changed_is}
use Rattle.memory_texts.proofs.Texts.{concat_cons, concat_nil}
use Rattle.memory_fragments.specs.Sections.{sections, fragments_all}
use Rattle.memory_fragments.proofs.Output.{concat_sections}
use Rattle.memory_fragments.proofs.Telling.{told_value}

-- the comparison with a text that begins with x, and goes on behind it
abbrev pub begins : Text → Text → Bool
begins x s = pointwise eqb (take (length x) s) x

same_append : (x s r : Text) → same s (x ++ r) ≡ (begins x s && same (drop (length x) s) r)
same_append [] s r = refl
same_append (a ∷ x) [] r = refl
same_append (a ∷ x) (b ∷ s) r = ap (λ (y : Bool). eqb b a && y) (same_append x s r) ∙ sym (and_assoc (eqb b a) (begins x s) (same (drop (length x) s) r))

same_nil : (l : Text) → same l [] ≡ eqb (length l) 0
same_nil [] = refl
same_nil (a ∷ l) = sym (ne_eqb (length (a ∷ l)) 0 (omega arith))

module _ {source t p s : List ℕ} (w : WellFormed source t p s) where
  changed_is : (b : Bool) → same source (concat (fragments_all source p s (sections t))) ≡ b → Told HasChanged (magic_string_of source t p s) [] [] 0 (bit (not b))
  unfolding show magic_string_of
  changed_is b e =
      let m = magic_string_of source t p s in
      let q : same source (to_string m) ≡ b = ap (same source) (sym (concat_sections source t p s w.readable.linked)) ∙ e in
      told_value HasChanged m (bit (not b)) (ap (λ (x : Bool). value_of (bit x)) (has_changed_is m ∙ ap not q))

  -- `left` is left of the source, `texts` of the texts
  module _ (left : Text) {texts : List Text} (c : same source (concat (fragments_all source p s (sections t))) ≡ same left (concat texts)) where
    next_is : {x : Text} {more : List Text} → texts ≡ x ∷ more → same left (concat texts) ≡ (begins x left && same (drop (length x) left) (concat more))
    next_is {x} {more} e = ap (λ (l : List Text). same left (concat l)) e ∙ ap (same left) (concat_cons x more) ∙ same_append x left (concat more)

    pub changed_here : {x : Text} {more : List Text} → texts ≡ x ∷ more → begins x left ≡ false → Told HasChanged (magic_string_of source t p s) [] [] 0 1
    changed_here {x} {more} e f = changed_is false (c ∙ next_is e ∙ ap (λ (b : Bool). b && same (drop (length x) left) (concat more)) f)

    pub same_so_far : {x left' : Text} {more : List Text} → texts ≡ x ∷ more → begins x left ≡ true → left' ≡ drop (length x) left
        → same source (concat (fragments_all source p s (sections t))) ≡ same left' (concat more)
    same_so_far {x} {left'} {more} e f g = c ∙ next_is e ∙ ap (λ (b : Bool). b && same (drop (length x) left) (concat more)) f ∙ ap (λ (y : Text). same y (concat more)) (sym g)

    pub changed_done : texts ≡ [] → Told HasChanged (magic_string_of source t p s) [] [] 0 (bit (not (eqb (length left) 0)))
    changed_done e = changed_is (eqb (length left) 0) (c ∙ ap (λ (l : List Text). same left (concat l)) e ∙ ap (same left) concat_nil ∙ same_nil left)
