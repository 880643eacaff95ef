-- Document 02, L4: where an edit cuts, how many of these cuts it made, and the law that this is the growth in chunks. proofs/Growth.antt proves it.
use Rattle.std.specs.Prelude.{ℕ, suc, ◌+◌, ◌≤◌, ◌≡◌, Bool, true, ◌&&◌, not, cond, List, [], ◌∷◌, ◌++◌, ltb, leb, eqb, length}
use Rattle.std.proofs.Math.Option.{Option, none, some}
use Rattle.utf8.specs.Chars.{chars}
use Rattle.model.specs.Text.{Text, unwrap_or}
use Rattle.model.specs.Chunk.{Chunk, start_of, span_text}
use Rattle.model.specs.MagicString.{MagicString, split_at}
use Rattle.model.specs.Indent.{get_indent_string, indent_pieces, line_starts, indent_chunk, is_empty_indentor}
use Rattle.model.specs.Limits.{Limits, within}
use Rattle.model.specs.WellFormed.{Formed, WellFormed}
use Rattle.model.specs.Call.{Edit, remove, update_with, reset, insert, append, prepend, relocate, trim, trim_start, trim_end, trim_lines, indent_with}
use Rattle.model.specs.Call.{freeze, steps, refused_before, run, cuts_left, after}
use Rattle.model.specs.Cut.{Cut, made, edge, outside, refused, cut_at}

-- ── cuts one after another ──
-- one more for a cut that was made; none behind a refusal
abbrev pub then_cuts : Cut → ℕ → ℕ
then_cuts made n = suc n
then_cuts edge n = n
then_cuts outside n = n
then_cuts refused n = 0

-- how many of the cuts at these positions, in order up to a refusal, say `made`
abbrev pub count_made : List ℕ → MagicString → ℕ
count_made [] m = 0
count_made (at ∷ l) m = then_cuts (cut_at at m) (count_made l (split_at at m).desk)

-- ── where an edit cuts ──
-- the line starts of a chunk without a replacement
abbrev pub starts_in : List ℕ → Bool → Chunk → MagicString → List ℕ
starts_in exclude mark c m =
    elim c.texts.edited_content [
      | some t ↦ []
      | none ↦ (line_starts exclude mark (start_of c) (chars (span_text c.span m.source))).starts
    ]

-- those of all chunks, each with the mark that the one before left
abbrev pub starts_from : Text → List ℕ → Bool → List Chunk → MagicString → List ℕ
starts_from indentor exclude mark [] m = []
starts_from indentor exclude mark (c ∷ cs) m =
    starts_in exclude mark c m ++ starts_from indentor exclude (indent_chunk indentor exclude mark c m).mark cs m

-- the lines of the source that `indent_with` indents, by the positions where it puts the indentor in; none with an empty one
abbrev pub indent_starts : Option Text → List ℕ → MagicString → List ℕ
indent_starts i exclude m =
    let indentor : Text = unwrap_or i (get_indent_string m.source) in
    cond (is_empty_indentor i) [] (starts_from indentor exclude (indent_pieces indentor true m.intro).mark m.chunks m)

-- the positions at which an edit cuts, in order; none where it does nothing, or a test before the cuts refuses it
unfoldable pub cuts_of : Edit → MagicString → List ℕ
cuts_of (remove a b) m = cond (ltb a b) (a ∷ b ∷ []) []
cuts_of (update_with a b t o) m = cond (ltb a b) (a ∷ b ∷ []) []
cuts_of (reset a b) m = cond (ltb a b && leb b (length m.source)) (a ∷ b ∷ []) []
cuts_of (insert p t left front) m = p ∷ []
cuts_of (append t) m = []
cuts_of (prepend t) m = []
cuts_of (relocate a b to) m =
    cond ((ltb a b && leb b (length m.source)) && not (leb a to && leb to b)) (a ∷ b ∷ to ∷ []) []
cuts_of (trim p) m = []
cuts_of (trim_start p) m = []
cuts_of (trim_end p) m = []
cuts_of trim_lines m = []
cuts_of (indent_with i l) m = indent_starts i l m
cuts_of (freeze a b) m = cond (ltb a b && leb b (length m.source)) (a ∷ b ∷ []) []

-- the cuts that an edit made and that remain: 15, 1, 3, the 20 of a trim or an indent, and 13 leave none
unfoldable pub cuts_made : Limits → Edit → MagicString → ℕ
cuts_made k e m = cond (eqb (refused_before m e) 0 && within k (steps e m).desk) (count_made (cuts_of e m) m) 0

-- "at most 1 for an insertion, 2 for a removal, replacement or reset, 3 for a move. An indent reports at most one per line it indents". Freezing cuts as reset does
unfoldable pub cuts_at_most : Edit → MagicString → ℕ
cuts_at_most (remove a b) m = 2
cuts_at_most (update_with a b t o) m = 2
cuts_at_most (reset a b) m = 2
cuts_at_most (insert p t left front) m = 1
cuts_at_most (append t) m = 0
cuts_at_most (prepend t) m = 0
cuts_at_most (relocate a b to) m = 3
cuts_at_most (trim p) m = 0
cuts_at_most (trim_start p) m = 0
cuts_at_most (trim_end p) m = 0
cuts_at_most trim_lines m = 0
cuts_at_most (indent_with i l) m = length (indent_starts i l m)
cuts_at_most (freeze a b) m = 2

-- ── the law: for every edit on every well-formed desk ──
pub record Counted (k : Limits) (e : Edit) (m : MagicString) : Type 0 where
  pub growth : length (run k e m).desk.chunks ≡ length m.chunks + cuts_made k e m
  pub value : cuts_left k e m ≡ cuts_made k e m
  pub few : cuts_left k e m ≤ cuts_at_most e m

abbrev pub CutsCounted : Type 0
CutsCounted = (k : Limits) (e : Edit) (m : MagicString) → Formed m → Counted k e m

-- ── edits one after the other ──
-- the cuts of all of them, by what each reports
abbrev pub cuts_in_all : Limits → List Edit → MagicString → ℕ
cuts_in_all k [] m = 0
cuts_in_all k (e ∷ L) m = cuts_left k e m + cuts_in_all k L (run k e m).desk

-- they are by how many chunks the desk has grown behind the last one
abbrev pub AllCutsCounted : Type 0
AllCutsCounted = (k : Limits) (L : List Edit) (m : MagicString) → WellFormed k m → length (after k L m).chunks ≡ length m.chunks + cuts_in_all k L m
