-- What `last_char` reads of a text, a piece list and a section, and an answer as the model's.
use Rattle.std.specs.Prelude.{ℕ, List, Some, None, Option as Answer}
use Rattle.std.proofs.Math.Option.{Option, none, some}
use Rattle.memory_table.specs.Order.{Entry}
use Rattle.model.specs.MagicString.{last_code, last_of_pieces, or_else}
use Rattle.memory.specs.Layout.{run_of}
use Rattle.memory_texts.specs.Texts.{content_at}

-- an answer of the program as one of the model
abbrev pub char_of : Answer ℕ → Option ℕ
char_of None = none
char_of (Some v) = some v

-- the body of `last_char`'s loop: the last outro piece, the content, the last intro piece
abbrev pub last_of : List ℕ → List ℕ → List ℕ → Entry → Option ℕ
last_of source p s e =
    or_else (last_of_pieces (run_of p s e.outro))
    (or_else (last_code (content_at source s e.start e.end e.text)) (last_of_pieces (run_of p s e.intro)))
