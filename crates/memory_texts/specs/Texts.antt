-- A chunk's text in lent memory.
use Rattle.std.specs.Prelude.{List, ℕ, ◌-◌, ◌≤◌, length, take, drop}
use Rattle.utf8.specs.Chars.{concat}
use Rattle.memory_table.specs.Order.{Entry}
use Rattle.model.specs.Text.{Text, unwrap_or}
use Rattle.model.specs.Chunk as chunk
use Rattle.memory.specs.Layout.{Place, replacement_of, chunk_of}
use Rattle.memory.specs.WellFormed.{ReplacementIn}

-- a span inside the source
pub record SpanIn (source : List ℕ) (e : Entry) : Type 0 where
  pub ordered : e.start ≤ e.end
  pub inside : e.end ≤ length source

pub record ContentIn (source s : List ℕ) (start end : ℕ) (text : Place) : Type 0 where
  pub ordered : start ≤ end
  pub inside : end ≤ length source
  pub replacement : ReplacementIn s text

-- a chunk's content: its replacement, or else its part of the source
abbrev pub content_at : List ℕ → List ℕ → ℕ → ℕ → Place → Text
content_at source s start end text = unwrap_or (replacement_of s text) (take (end - start) (drop start source))

-- all that a chunk shows
abbrev pub text_of_chunk : List ℕ → List ℕ → List ℕ → Entry → Text
text_of_chunk source p s e = concat (chunk.fragments source (chunk_of p s e))
