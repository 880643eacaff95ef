-- What `is_range_within_edited_chunk` looks at.
use Rattle.std.specs.Prelude.{ℕ, Bool, ◌&&◌, not, leb, eqb}
use Rattle.memory_table.specs.Order.{Entry}
use Rattle.memory_layout.specs.Layout.{NONE}

-- a chunk is edited and holds the range
abbrev pub within : Entry → ℕ → ℕ → Bool
within e start end = (leb e.start start && leb end e.end) && not (eqb e.text.0 NONE)
