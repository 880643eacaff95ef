-- What the walk and the edit keep of a well-formed desk: every row stands in the list once, and of what the rows name only the replacement is new.
use Rattle.std.specs.Prelude.{◌≡◌, List, ℕ, ◌+◌, ◌≤◌}
use Rattle.memory_table.specs.Table.{row_at}
use Rattle.memory_table.specs.Order.{entries}
use Rattle.model.specs.Text.{sum}
use Rattle.memory.specs.Layout.{Place}
use Rattle.memory.specs.WellFormed.{HoldsEach}
use Rattle.memory_list.specs.Insert.{runs_of}
use Rattle.edit_row_laws.specs.Counted.{count_in_entry, Counts}

-- as `Kept`, with a replacement more, at the place x
pub record Replaced (t t' : List ℕ) (x : Place) : Type 0 where
  pub each : HoldsEach t → HoldsEach t'
  pub desk : runs_of (row_at t' 0) ≡ runs_of (row_at t 0)
  pub less : (f g : Place → ℕ) → Counts f g → sum (count_in_entry f g) (entries t') ≤ sum (count_in_entry f g) (entries t) + g x
