-- From what each test says to the number.
use Prim.Native.Nat.{ℕ}
use mathlib.Core.Path.{◌≡◌, sym, ap, ◌∙◌}
use mathlib.Core.Bool.{Bool, true, false, ◌&&◌}
use mathlib.Core.List.{List, ◌++◌}
use mathlib.Core.Option.{some}
use lib.Dec.{eqb}
use lib.ListN.{length}
use Rattle.model.specs.MagicString.{MagicString}
use Rattle.model.specs.Limits.{Limits}
use Rattle.model.specs.Call.{Edit, run}
use Rattle.model.proofs.Lists.{tests_append}
use Rattle.model_sheet.specs.Record.{Recorded, records}
use Rattle.model_sheet.specs.Sheet.{recorded_calls}
use Rattle.model_join.specs.Tests.{edits_apart, each_alone}
use Rattle.model_join.proofs.Joining.{refused_18, refused_19, refused_13, not_refused}
use Rattle.memory.specs.Layout.{magic_string_of}
use Rattle.memory.specs.WellFormed.{limits_of}
use Rattle.memory.proofs.Desks.{source_of}
use Rattle.join_apart.specs.Apart.{Apart}
use Rattle.join_alone.specs.Alone.{AllAlone}
use Rattle.join_space.specs.Space.{Spaced}
use Rattle.join_refused.specs.Refused.{BothAlone, RefusedWith}

alone_append : (k : Limits) (m : MagicString) (L L' : List Edit) → each_alone k m (L ++ L') ≡ each_alone k m L && each_alone k m L'
unfolding each_alone
alone_append k m L L' = tests_append (λ e. eqb (run k e m).number 0) L L'

module _ (first second source t p s : List ℕ) where
  abbrev k : Limits
  k = limits_of t p s

  abbrev m : MagicString
  m = magic_string_of source t p s

  -- ── both lists, one after the other ──
  module _ {a : Bool} (x : AllAlone source t p s first a) where
    pub first_alone : {b : Bool} → a ≡ true → AllAlone source t p s second b → BothAlone first second source t p s b
    first_alone q y l l' e e' =
        y l' e' ∙ sym (alone_append k m (recorded_calls l) (recorded_calls l') ∙ ap (λ (b : Bool). b && each_alone k m (recorded_calls l')) (sym (x l e) ∙ q))

    pub first_refused : a ≡ false → BothAlone first second source t p s false
    first_refused q l l' e e' = sym (alone_append k m (recorded_calls l) (recorded_calls l') ∙ ap (λ (b : Bool). b && each_alone k m (recorded_calls l')) (sym (x l e) ∙ q))

  -- ── the number ──
  module _ {a : Bool} (x : Apart (length source) first second a) where
    apart_is : (l l' : List Recorded) → records first ≡ some l → records second ≡ some l' → edits_apart (length m.source) (recorded_calls l ++ recorded_calls l') ≡ a
    apart_is l l' e e' = ap (λ (y : List ℕ). edits_apart (length y) (recorded_calls l ++ recorded_calls l')) (source_of source t p s) ∙ sym (x l l' e e')

    pub with_18 : a ≡ false → RefusedWith first second source t p s 18
    with_18 q l l' e e' = sym (refused_18 k m (recorded_calls l ++ recorded_calls l') (apart_is l l' e e' ∙ q))

    module _ (p₁ : a ≡ true) {b : Bool} (y : BothAlone first second source t p s b) where
      pub with_19 : b ≡ false → RefusedWith first second source t p s 19
      with_19 q l l' e e' = sym (refused_19 k m (recorded_calls l ++ recorded_calls l') (apart_is l l' e e' ∙ p₁) (sym (y l l' e e') ∙ q))

      module _ (p₂ : b ≡ true) {c : Bool} (z : Spaced t p s first second c) where
        pub with_13 : c ≡ false → RefusedWith first second source t p s 13
        with_13 q l l' e e' =
            sym (refused_13 k m (recorded_calls l ++ recorded_calls l') (apart_is l l' e e' ∙ p₁) (sym (y l l' e e') ∙ p₂) (sym (z source l l' e e') ∙ q))

        pub with_0 : c ≡ true → RefusedWith first second source t p s 0
        with_0 q l l' e e' =
            sym (not_refused k m (recorded_calls l ++ recorded_calls l') (apart_is l l' e e' ∙ p₁) (sym (y l l' e e') ∙ p₂) (sym (z source l l' e e') ∙ q))
