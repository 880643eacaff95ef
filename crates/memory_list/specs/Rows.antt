-- The rows of a table's list, each with its number.
use Rattle.std.specs.Prelude.{List, ℕ, map, ◌+◌, ◌*◌, ◌≤◌, length}
use Rattle.memory_layout.specs.Layout.{ROW}
use Rattle.memory_table.specs.declared.Row.{Row}
use Rattle.memory_table.specs.Table.{row_at}
use Rattle.memory_table.specs.Ring.{Each, follow}
use Rattle.memory_table.specs.Order.{next_of, order}

abbrev pub numbered : List ℕ → ℕ → ℕ × Row
numbered t i = (i, row_at t i)

-- of the whole list
abbrev pub numbered_rows : List ℕ → List (ℕ × Row)
numbered_rows t = map (numbered t) (order t)

-- of the next n rows, from row i on
abbrev pub rows_from : List ℕ → ℕ → ℕ → List (ℕ × Row)
rows_from t n i = map (numbered t) (follow (next_of t) n i)

-- each of these rows stands in the table
abbrev pub InTable : List ℕ → ℕ → ℕ → Type 0
InTable t n i = Each (λ x. x * ROW + ROW ≤ length t) (follow (next_of t) n i)
