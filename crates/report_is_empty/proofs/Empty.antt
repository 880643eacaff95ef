-- The walk of `is_empty`: no text so far is filled.
use mathlib.Core.Path.{◌≡◌, ap, sym, subst, ◌∙◌}
use mathlib.Core.Bool.{Bool, true, false, ◌&&◌, not}
use mathlib.Core.List.{List, [], ◌∷◌}
use Prim.Native.Nat.{ℕ}
use Rattle.utf8.specs.Chars.{All}
use Rattle.memory_table.specs.Order.{entries}
use Rattle.model.specs.Text.{Text, all, is_nil, trim_white_space}
use Rattle.model.specs.MagicString.{is_empty}
use Rattle.model.specs.Call.{show, value_of, bit, is_empty as IsEmpty}
use Rattle.model.specs.WellFormed.{Valid}
use Rattle.memory.specs.Layout.{magic_string_of}
use Rattle.memory.specs.Calls.{Told}
use Rattle.report_measures.specs.Measures.{filled_of}
use Rattle.memory_fragments.specs.Sections.{fragments_all}
use Rattle.memory_fragments.proofs.Telling.{told_value}
use Rattle.memory_fragments.proofs.Valid.{left_is}

abbrev pub blank : List Text → Bool
blank ts = all (λ f. is_nil (trim_white_space f)) ts

-- the texts `whole` are blank exactly if those that are left of them are
pub record Blank (whole left : List Text) : Type 0 where
  pub valid : All Valid left
  pub same : blank left ≡ blank whole

-- at first all are left
pub blank_all : {whole left items : List Text} → left ≡ items → items ≡ whole → All Valid items → Blank whole left
blank_all e f v = record { valid = subst (All Valid) (sym e) v; same = ap blank (e ∙ f) }

blank_cons : (t : Text) (us : List Text) (b : Bool) → filled_of t ≡ b → blank (t ∷ us) ≡ (not b && blank us)
unfolding filled_of
blank_cons t us b e = go (is_nil (trim_white_space t)) b e
  where
    go : (x b : Bool) → not x ≡ b → (x && blank us) ≡ (not b && blank us)
    go true b e = ap (λ (y : Bool). not y && blank us) e
    go false b e = ap (λ (y : Bool). not y && blank us) e

module _ (source t p s : List ℕ) where
  tells : (b : Bool) → blank (fragments_all source p s (entries t)) ≡ b → Told IsEmpty (magic_string_of source t p s) [] [] 0 (bit b)
  unfolding show is_empty magic_string_of
  tells b e = told_value IsEmpty (magic_string_of source t p s) (bit b) (ap (λ (x : Bool). value_of (bit x)) e)

  module _ {left : List Text} (c : Blank (fragments_all source p s (entries t)) left) where
    pub blank_found : {left' : List Text} {x : Text} → left ≡ x ∷ left' → true ≡ filled_of x → Told IsEmpty (magic_string_of source t p s) [] [] 0 0
    blank_found {left'} {x} e f = tells false (sym c.same ∙ ap blank e ∙ blank_cons x left' true (sym f))

    pub blank_done : left ≡ [] → Told IsEmpty (magic_string_of source t p s) [] [] 0 1
    blank_done e = tells true (sym c.same ∙ ap blank e)

pub blank_more : {whole left left' : List Text} {x : Text} → Blank whole left → left ≡ x ∷ left' → false ≡ filled_of x → Blank whole left'
blank_more {left' = left'} {x = x} c e f = record { valid = left_is c.valid e; same = sym (blank_cons x left' false (sym f)) ∙ sym (ap blank e) ∙ c.same }
