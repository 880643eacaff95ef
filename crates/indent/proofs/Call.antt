-- `indent_with` as a call: its tests, and the indentor given or guessed.
use mathlib.Core.Path.{◌≡◌, refl, sym, ap, ◌∙◌, subst}
use mathlib.Core.Bool.{Bool, true, false, ◌&&◌, cond}
use mathlib.Core.List.{List, [], ◌∷◌}
use mathlib.Core.Option.{Option, none, some}
use Prim.Native.Nat.{ℕ, suc, ◌+◌, ◌-◌, ◌%◌, ◌≤◌, ◌<◌}
use lib.ListN.{length, get_or, take, drop, drop_of_length-le}
use lib.Seq.{drop-cons}
use native.Mathlib.Numerals.{add-one}
use native.Mathlib.Omega.{arith}
use borrow.Author.Tests.{eq-eqb, ne_eqb}
use Rattle.utf8.specs.Rfc3629.{utf8, between}
use Rattle.model.specs.Text.{Text, TAB, all, is_nil}
use Rattle.model.specs.MagicString.{ok}
use Rattle.model.specs.Indent.{get_indent_string, indent_by}
use Rattle.model.specs.Indent as indent_rs
use Rattle.model.specs.Call.{indent_with, options_valid, given, refused_before}
use Rattle.model.proofs.Lists.{nil_true}
use Rattle.memory.specs.Layout.{magic_string_of}
use Rattle.memory.specs.WellFormed.{WellFormed}
use Rattle.memory.specs.Calls.{Ran, indentor_of}
use Rattle.memory.proofs.Desks.{source_of}
use Rattle.memory_used.specs.declared.Used.{Used}
use Rattle.memory_used.specs.declared.Outcome.{Outcome}
use Rattle.memory_used.specs.Above.{Desk, Leaves}
use Rattle.memory_frozen.specs.Frozen.{frozen_in_rows}
use Rattle.memory_frozen.proofs.Frozen.{frozen_any}
use Rattle.edit_scratch.proofs.Refused.{code_some}
use Rattle.memory_layout.specs.declared.refusal.Refusal.{Refusal}
use Rattle.memory_layout.specs.Refusals.{code}
use Rattle.std.specs.Prelude.{Err}
use Rattle.edit_scratch.proofs.Tables.{refused_15, ran_before, ran_same, refused_1}
use Rattle.report_indent_string.specs.declared.Indentor.{Indentor}
use Rattle.report_indent_string.specs.declared.Indentor.TheVariants.{Tab, Spaces}
use Rattle.report_indent_string.specs.Guess.{indentor_text, Guessed}
use Rattle.indent_scratch.specs.Ran.{IndentRan}
use Rattle.indent.specs.Refusal.{refusal}

-- ---- every position of a list passes a test

module _ (f : ℕ → Bool) (l : List ℕ) (i : ℕ) (e : all f l ≡ all f (drop i l)) where
  all_step : i < length l → all f (drop i l) ≡ f (get_or l i 0) && all f (drop (i + 1) l)
  all_step h = rw (add-one, drop-cons l i 0 h)

  module _ (h : i < length l) (b : Bool) (q : b ≡ f (get_or l i 0)) where
    pub all_stop : b ≡ false → false ≡ all f l
    all_stop z = sym (e ∙ all_step h ∙ ap (λ (y : Bool). y && all f (drop (i + 1) l)) (sym q ∙ z))

    pub all_more : b ≡ true → all f l ≡ all f (drop (i + 1) l)
    all_more z = e ∙ all_step h ∙ ap (λ (y : Bool). y && all f (drop (i + 1) l)) (sym q ∙ z)

  pub all_end : length l ≤ i → true ≡ all f l
  all_end h = sym (e ∙ ap (all f) (drop_of_length-le l h))

-- ---- the tests: 15, 1, 3, 20

pub even_options : (exclude : List ℕ) → length exclude % 2 ≡ 0 → options_valid (indent_with none exclude) ≡ true
even_options exclude h = eq-eqb (length exclude % 2) 0 h

-- an option given or not
module _ (has : Bool) (indentor : Text) {exclude source t p s t' p' s' : List ℕ} {o : Outcome} where
  pub with_given : has ≡ true → Leaves (indent_with (some indentor) exclude) source t p s t' p' s' o → Leaves (indent_with (indentor_of has indentor) exclude) source t p s t' p' s' o
  with_given e x = subst (λ (b : Bool). Leaves (indent_with (indentor_of b indentor) exclude) source t p s t' p' s' o) (sym e) x

  pub with_none : has ≡ false → Leaves (indent_with none exclude) source t p s t' p' s' o → Leaves (indent_with (indentor_of has indentor) exclude) source t p s t' p' s' o
  with_none e x = subst (λ (b : Bool). Leaves (indent_with (indentor_of b indentor) exclude) source t p s t' p' s' o) (sym e) x

module _ {source t p s : List ℕ} (w : WellFormed source t p s) where
  pub odd_refused : (i : Option Text) (exclude : List ℕ) → (length exclude % 2 ≡ 0 → ⊥) → Ran (indent_with i exclude) source t p s t p s 15 0
  odd_refused i exclude n =
      ran_before (indent_with i exclude) source t p s 14 15 w (refused_15 (indent_with i exclude) (magic_string_of source t p s) (ne_eqb (length exclude % 2) 0 n)) refl

  pub given_invalid : (exclude : List ℕ) → options_valid (indent_with none exclude) ≡ true → (indentor : Text) → utf8 indentor ≡ false
      → Ran (indent_with (some indentor) exclude) source t p s t p s 1 0
  given_invalid exclude o indentor h =
      ran_before (indent_with (some indentor) exclude) source t p s 0 1 w (refused_1 (indent_with (some indentor) exclude) source t p s o (rw h)) refl

-- 3, then 20
module _ (placed marked : Bool) where
  pub misplaced : placed ≡ false → 3 ≡ refusal placed marked
  misplaced h = rw h

  pub marked_desk : placed ≡ true → marked ≡ true → 20 ≡ refusal placed marked
  marked_desk h e = rw (h, e)

  pub passed : placed ≡ true → marked ≡ false → 0 ≡ refusal placed marked
  passed h e = rw (h, e)

module _ (source t p s exclude : List ℕ) (o : options_valid (indent_with none exclude) ≡ true) {number : ℕ} (r : number ≡ refusal (all (between source) exclude) (frozen_in_rows true 0 0 t)) where
  refused_is : (i : Option Text) → all utf8 (given i) ≡ true → refused_before (magic_string_of source t p s) (indent_with i exclude) ≡ number
  unfolding refused_before magic_string_of
  refused_is i v = rw (o, v) (sym (r ∙ ap (refusal (all (between source) exclude)) (frozen_any source t p s)))

  -- the desk stays, and what it uses
  pub refused : (i : Option Text) → all utf8 (given i) ≡ true → {used : Used} → Desk source t p s used → (e : Refusal) → code e ≡ number
      → Leaves (indent_with i exclude) source t p s t p s (record { status = Err e; cuts = 0; used = used })
  refused i v d e q =
      let positive : code e ≡ suc (code e - 1) = omega (arith, code_some e) in
      record { ran = ran_before (indent_with i exclude) source t p s (code e - 1) (code e) d.well_formed (refused_is i v ∙ sym q ∙ positive) positive; above = d.above }

  module _ (z : number ≡ 0) where
    -- the guess
    pub none_ran : (indentor : Text) → indentor ≡ get_indent_string source → {t' p' s' : List ℕ} {r c : ℕ}
        → IndentRan indentor exclude source t p s t' p' s' r c → Ran (indent_with none exclude) source t p s t' p' s' r c
    unfolding indent_rs.indent_with
    none_ran indentor g f =
        f (indent_with none exclude) (refused_is none refl ∙ z)
        (ap (λ (x : Text). indent_by x exclude (magic_string_of source t p s)) (ap get_indent_string (source_of source t p s) ∙ sym g)) refl

    module _ (indentor : Text) (v : utf8 indentor ≡ true) where
      placed : refused_before (magic_string_of source t p s) (indent_with (some indentor) exclude) ≡ 0
      placed = refused_is (some indentor) (rw v) ∙ z

      -- an empty indentor
      pub given_empty : WellFormed source t p s → length indentor ≡ 0 → Ran (indent_with (some indentor) exclude) source t p s t p s 0 0
      unfolding indent_rs.indent_with
      given_empty w q =
          ran_same (indent_with (some indentor) exclude) source t p s 0 w placed
          (ap (λ (b : Bool). cond b (ok (magic_string_of source t p s)) (indent_by indentor exclude (magic_string_of source t p s))) (nil_true indentor q))

      pub given_ran : (length indentor ≡ 0 → ⊥) → {t' p' s' : List ℕ} {r c : ℕ} → IndentRan indentor exclude source t p s t' p' s' r c
          → Ran (indent_with (some indentor) exclude) source t p s t' p' s' r c
      unfolding indent_rs.indent_with
      given_ran q f =
          f (indent_with (some indentor) exclude) placed
          (ap (λ (b : Bool). cond b (ok (magic_string_of source t p s)) (indent_by indentor exclude (magic_string_of source t p s))) (nil_false indentor q)) (nil_false indentor q)
        where
          nil_false : (l : Text) → (length l ≡ 0 → ⊥) → is_nil l ≡ false
          nil_false [] n = absurd (n refl)
          nil_false (x ∷ l) n = refl

-- ---- the guess in the source

module _ {source : Text} {g : Indentor} (h : Guessed source g) where
  pub tab_guessed : g ≡ Tab → TAB ∷ [] ≡ get_indent_string source
  unfolding indentor_text
  tab_guessed e = let text : indentor_text g ≡ TAB ∷ [] = ap indentor_text e in sym text ∙ h.text

  pub spaces_guessed : (n at : ℕ) → g ≡ Spaces n at → (k : ℕ) → k ≡ n → take k (drop at source) ≡ get_indent_string source
  spaces_guessed n at e k q = ap (λ (k : ℕ). take k (drop at source)) q ∙ (h.place n at e).1
