-- Document 02, L8, on the rows of a table: the frozen chunks of a range, or of the whole desk.
use Rattle.std.specs.Prelude.{Bool, ◌&&◌, ◌||◌, List, ◌≡◌, ℕ, ◌≤◌, ◌<◌}
use Rattle.model.specs.Text.{any}
use Rattle.memory_table.specs.Order.{Entry, is_frozen, count_of, entries}
use Rattle.memory_table.specs.Table.{row_at}
use Rattle.memory_list.specs.Changes.{entry_starts_in}

abbrev pub refuses : Bool → ℕ → ℕ → Entry → Bool
refuses whole a b e = (whole || entry_starts_in a b e) && is_frozen e

abbrev pub frozen_in_rows : Bool → ℕ → ℕ → List ℕ → Bool
frozen_in_rows whole a b t = any (refuses whole a b) (entries t)

-- no row of a chunk has a mark
abbrev pub Unmarked : List ℕ → Type 0
Unmarked t = (i : ℕ) → 0 < i → i ≤ count_of t → (row_at t i).frozen ≡ 0
