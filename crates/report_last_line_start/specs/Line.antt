-- Where the last line of a desk's output begins: the Rust's `last_line`.
use Rattle.std.specs.Prelude.{ℕ, ◌+◌, ◌≤◌, ◌<◌, ◌≡◌, List, [], length, get_or, drop}
use Rattle.utf8.specs.Chars.{concat}
use Rattle.memory_table.specs.Order.{count_of}
use Rattle.model.specs.MagicString.{last_line}
use Rattle.memory.specs.Layout.{magic_string_of}
use Rattle.memory_view.specs.declared.DeskView.{DeskView}
use Rattle.memory_fragments.specs.Sections.{On, rest, section, fragments_of}
use Rattle.report_last_line_start.specs.declared.LineStart.{LineStart}

-- byte `at` of fragment `item` of a section: from there on the output is its last line, of n bytes
pub record LineFrom (source t p s : List ℕ) (g row item at n : ℕ) : Type 0 where
  pub on : On t g row item
  pub below : g < count_of t + 2
  pub at_in : at ≤ length (get_or (fragments_of source p s (section t g)) item [])
  pub line_is : drop at (concat (rest source t p s g item)) ≡ last_line (magic_string_of source t p s)
  pub length_is : n ≡ length (last_line (magic_string_of source t p s))

-- so it is where l says, in a desk that is read
abbrev pub IsLineStart : DeskView → LineStart → Type 0
IsLineStart v l = LineFrom v.source.now v.chunks.now v.pieces.now v.store.now l.place.section l.place.row l.place.item l.at l.n
