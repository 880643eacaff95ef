-- The last line written forwards, and what `last_line` tells.
use mathlib.Core.Path.{◌≡◌, refl, ap, sym, ◌∙◌}
use mathlib.Core.List.{List, [], ◌∷◌, ◌++◌}
use Prim.Native.Nat.{ℕ, ◌+◌, ◌≤◌, ◌<◌}
use native.Mathlib.Omega.{arith}
use lib.ListN.{length, get_or, drop}
use lib.Seq.{drop-append-le, drop-nil}
use Rattle.utf8.specs.Chars.{concat}
use Rattle.model.specs.Text.{Text}
use Rattle.model.specs.MagicString.{last_line}
use Rattle.memory.specs.Layout.{magic_string_of}
use Rattle.memory_texts.proofs.Texts.{concat_cons, concat_nil}
use Rattle.memory_fragments.specs.Sections.{section, fragments_of, rest}
use Rattle.memory_fragments.proofs.Sections.{rest_cons}
use Rattle.memory_texts.specs.Over.{Wrote}
use Rattle.memory_fragments.proofs.Writing.{Writing, writing_none, writing_room, writing_more, writing_done}
use Rattle.memory_fragments.proofs.Telling.{told_short, told_text}
use Rattle.model.specs.Call.{show, last_line as LastLine}
use Rattle.memory.specs.Calls.{Told}
use Rattle.report_last_line_start.specs.Line.{LineFrom}

-- ---- the line written, text by text: `texts` are left of it, the first of them from its byte `at` on

pub record Forwards (whole d₀ : List ℕ) (texts : List Text) (d : List ℕ) (at o : ℕ) : Type 0 where
  pub at_in : (x : Text) (more : List Text) → texts ≡ x ∷ more → at ≤ length x
  pub writing : Writing d₀ whole d o (drop at (concat texts))

pub forwards_none : (source t p s d : List ℕ) (g row item at n : ℕ) (texts : List Text) → LineFrom source t p s g row item at n → n ≤ length d → texts ≡ rest source t p s g item
    → Forwards (last_line (magic_string_of source t p s)) d texts d at 0
forwards_none source t p s d g row item at n texts f h e = record {
  at_in = λ x more q.
      let k : x ≡ get_or (fragments_of source p s (section t g)) item [] = ap (λ (l : List Text). get_or l 0 []) (sym q ∙ e ∙ rest_cons source t p s g item f.below f.on.item_in) in
      omega (arith, f.at_in, ap length k);
  writing = writing_none d _ _ (ap (λ (l : List Text). drop at (concat l)) e ∙ f.line_is) (omega (arith, f.length_is));
}

module _ {whole d₀ : List ℕ} {texts : List Text} {d : List ℕ} {at o : ℕ} (v : Forwards whole d₀ texts d at o) where
  pub forwards_done : texts ≡ [] → d ≡ whole ++ drop (length whole) d₀
  forwards_done e = writing_done v.writing (ap (λ (l : List Text). drop at (concat l)) e ∙ ap (drop at) concat_nil ∙ drop-nil at)

  module _ {x : Text} {more : List Text} (e : texts ≡ x ∷ more) where
    pub forwards_at : at ≤ length x
    forwards_at = v.at_in x more e

    onwards : drop at (concat texts) ≡ drop at x ++ concat more
    onwards = ap (λ (l : List Text). drop at (concat l)) e ∙ ap (drop at) (concat_cons x more) ∙ drop-append-le at x (concat more) forwards_at

    pub forwards_room : o + length (drop at x) ≤ length d
    forwards_room = writing_room v.writing (drop at x) (concat more) onwards

    pub forwards_more : {d' : List ℕ} {o' : ℕ} → Wrote d o (drop at x) d' o' → Forwards whole d₀ more d' 0 o'
    forwards_more u = record {
      at_in = λ y rest q. omega arith;
      writing = writing_more v.writing (drop at x) (concat more) onwards u;
    }

-- ---- what `last_line` tells

module _ (source t p s : List ℕ) (g row item at n : ℕ) (f : LineFrom source t p s g row item at n) (out : List ℕ) where
  pub told_14 : length out < n → Told (LastLine (length out)) (magic_string_of source t p s) out out 14 0
  unfolding show
  told_14 h = told_short (LastLine (length out)) (magic_string_of source t p s) (length out) (last_line (magic_string_of source t p s)) out refl (omega (arith, f.length_is))

  pub told_line : (out' : List ℕ) → n ≤ length out → out' ≡ last_line (magic_string_of source t p s) ++ drop (length (last_line (magic_string_of source t p s))) out
      → Told (LastLine (length out)) (magic_string_of source t p s) out out' 0 n
  unfolding show
  told_line out' h e =
      told_text (LastLine (length out)) (magic_string_of source t p s) (length out) (last_line (magic_string_of source t p s)) out out' n refl (omega (arith, f.length_is)) f.length_is e
