-- Document 02, L4: what a cut did.
use Rattle.std.specs.Prelude.{ℕ, Bool, ◌||◌, cond, leb, eqb, length}
use Rattle.model.specs.Text.{is_some}
use Rattle.model.specs.MagicString.{MagicString, by_end, holder, refuses_split}

-- "A cut now says whether it made two chunks, found an edge between two chunks, or lay at or beyond an end of the source." The fourth is the refusal 6
pub data Cut : Type 0 where
  made edge outside refused : Cut

-- at 0, at the source's end or past it; so everywhere on an empty source
abbrev pub is_outside : ℕ → MagicString → Bool
is_outside at m = eqb at 0 || leb (length m.source) at

-- a chunk ends there, wherever its neighbour stands in the list
abbrev pub is_edge : ℕ → MagicString → Bool
is_edge at m = is_some (by_end at m.chunks)

-- inside a chunk whose replacement is not empty
abbrev pub is_refused : ℕ → MagicString → Bool
is_refused at m = refuses_split (holder at m.chunks)

-- what `split_at` does at a position: it makes two chunks inside any other chunk
unfoldable pub cut_at : ℕ → MagicString → Cut
cut_at at m =
    cond (is_outside at m) outside
    (cond (is_edge at m) edge
    (cond (is_refused at m) refused made))

-- its number
abbrev pub cut_number : Cut → ℕ
cut_number made = 0
cut_number edge = 0
cut_number outside = 0
cut_number refused = 6

-- how many it made
abbrev pub made_count : Cut → ℕ
made_count made = 1
made_count edge = 0
made_count outside = 0
made_count refused = 0
