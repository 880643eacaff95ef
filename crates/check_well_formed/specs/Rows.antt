-- The facts that the check decides, by row number: row 0 and rows 1 to the count. proofs/Bridge.antt shows that they are `WellFormed`.
use Rattle.std.specs.Prelude.{List, ℕ, ◌/◌, ◌≤◌, length}
use Rattle.memory_layout.specs.Layout.{SOURCE_BYTES, PIECE_ROOM}
use Rattle.memory_table.specs.Order.{count_of, Linked}
use Rattle.memory.specs.WellFormed.{Sized}
use Rattle.check_spans.specs.Spans.{Spans, Edges}
use Rattle.check_marks.specs.Marks.{piece_total}
use Rattle.check_texts_apart.specs.Places.{Placed}
use Rattle.check_texts_valid.specs.Valid.{TextsValid}

-- tables of a desk's lengths, and a source that is short enough
pub record Shaped (source t p s : List ℕ) : Type 0 where
  pub sized : Sized t p s
  pub fits : length source ≤ SOURCE_BYTES

-- one list, and spans that cover the source
pub record Chunked (source t : List ℕ) : Type 0 where
  pub linked : Linked t
  pub spans : Spans t (count_of t) (length source)
  pub edges : Edges source t (count_of t)

-- runs and texts
pub record Pieced (t p s : List ℕ) : Type 0 where
  pub count : piece_total t (count_of t) ≤ length p / PIECE_ROOM
  pub placed : Placed t p (count_of t) (length s)
  pub texts : TextsValid t p s (count_of t)
