-- prepend.rs: as append.rs, at the front of the piece lists.
use Rattle.std.specs.Prelude.{ℕ, List, ◌∷◌}
use Rattle.model.specs.Text.{Text}
use Rattle.model.specs.Chunk.{prepend_intro, prepend_outro}
use Rattle.model.specs.MagicString.{MagicString, Result, ok, with_intro, by_start_mut, by_end_mut}

-- `push_front`
abbrev pub push_front : Text → List Text → List Text
push_front t l = t ∷ l

-- `prepend`
abbrev pub prepend : Text → MagicString → Result
prepend t m = ok (with_intro m (push_front t m.intro))

-- `prepend_left`
abbrev pub prepend_left : ℕ → Text → MagicString → Result
prepend_left at t = by_end_mut at (prepend_outro t) (push_front t)

-- `prepend_right`
abbrev pub prepend_right : ℕ → Text → MagicString → Result
prepend_right at t = by_start_mut at (prepend_intro t) (push_front t)
