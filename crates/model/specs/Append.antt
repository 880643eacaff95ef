-- append.rs. Left adds to the outro of the chunk that ends at the position, right to the intro of the chunk that starts there; without such a chunk left goes to
-- the head and right to the tail, past the end too.
use Rattle.std.specs.Prelude.{ℕ}
use Rattle.model.specs.Text.{Text, push_back}
use Rattle.model.specs.Chunk.{append_intro, append_outro}
use Rattle.model.specs.MagicString.{MagicString, Result, ok, with_outro, by_start_mut, by_end_mut}

-- `append`
abbrev pub append : Text → MagicString → Result
append t m = ok (with_outro m (push_back t m.outro))

-- `append_left`
abbrev pub append_left : ℕ → Text → MagicString → Result
append_left at t = by_end_mut at (append_outro t) (push_back t)

-- `append_right`
abbrev pub append_right : ℕ → Text → MagicString → Result
append_right at t = by_start_mut at (append_intro t) (push_back t)
