-- Laws of what `Indent` in specs/ defines.
use Prim.Native.Nat.{ℕ, ◌≤◌, ◌<◌}
use mathlib.Core.Path.{◌≡◌, ap}
use mathlib.Core.Bool.{Bool, true, false}
use mathlib.Core.List.{List, [], ◌∷◌}
use mathlib.Core.Option.{Option, none, some}
use borrow.Author.Tests.{lt-ltb, le-ltb}
use Rattle.utf8.specs.Chars.{chars}
use Rattle.model.specs.Text.{Text}
use Rattle.model.specs.Chunk.{Chunk, with_texts, start_of, span_text, first_half, second_half, prepend_intro, edit}
use Rattle.model.specs.Indent.{Indented, indent_frag, excluded, Starts, line_starts}
use Rattle.model_indent_closed.specs.Indent.{split_lines, indented_chunk}

-- a line start inside the chunk, and one at its start
pub split_lines_inside : (indentor : Text) (c : Chunk) (i : ℕ) (l : List ℕ) → start_of c < i
    → split_lines indentor c (i ∷ l) ≡ first_half i c ∷ split_lines indentor (with_texts (prepend_intro indentor) (second_half i c)) l
split_lines_inside indentor c i l h = rw (lt-ltb (start_of c) i h, split_lines)

pub split_lines_at_start : (indentor : Text) (c : Chunk) (i : ℕ) (l : List ℕ) → i ≤ start_of c
    → split_lines indentor c (i ∷ l) ≡ split_lines indentor (with_texts (prepend_intro indentor) c) l
split_lines_at_start indentor c i l h = rw (le-ltb (start_of c) i h, split_lines)

-- its three cases
module _ (indentor : Text) (exclude : List ℕ) (source : Text) (mark : Bool) (c : Chunk) where
  pub indented_lines : c.texts.edited_content ≡ none
      → let r : Starts = line_starts exclude mark (start_of c) (chars (span_text c.span source)) in
      indented_chunk indentor exclude source mark c ≡ record { mark = r.mark; chunks = split_lines indentor c r.starts }
  unfolding indented_chunk
  indented_lines e = rw e

  pub indented_excluded : {t : Text} → c.texts.edited_content ≡ some t → excluded exclude (start_of c) ≡ true
      → indented_chunk indentor exclude source mark c ≡ record { mark = mark; chunks = c ∷ [] }
  unfolding indented_chunk
  indented_excluded e x =
      rw (e, x, indented_chunk)
      (ap (λ (o : Option Text). record { mark = mark; chunks = with_texts (λ x. record { intro = x.intro; outro = x.outro; edited_content = o }) c ∷ [] }) e)

  pub indented_replaced : {t : Text} → c.texts.edited_content ≡ some t → excluded exclude (start_of c) ≡ false
      → let r : Indented = indent_frag indentor mark t in
      indented_chunk indentor exclude source mark c ≡ record { mark = r.mark; chunks = with_texts (edit r.text false) c ∷ [] }
  unfolding indented_chunk
  indented_replaced e x = rw (e, x, indented_chunk)
