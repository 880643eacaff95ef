-- A trim of a piece list, from either end: which pieces go, which is trimmed, which stay.
use Rattle.std.specs.Prelude.{Bool, true, false, List, ℕ}
use Rattle.model.specs.Text.{Text}
use Rattle.model.specs.Trim.{trim_deque_start, trim_deque_end}

-- `trim_deque_start` (from the front) or `trim_deque_end`
abbrev pub trim_deque : Bool → ℕ → List Text → List Text
trim_deque true p l = trim_deque_start p l
trim_deque false p l = trim_deque_end p l
