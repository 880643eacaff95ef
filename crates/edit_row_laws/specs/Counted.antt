-- Counts of what the rows of a desk name: piece rows, store bytes, pieces and their bytes. An empty piece list and an empty or absent replacement count nothing.
use Rattle.std.specs.Prelude.{◌≡◌, ℕ, ◌+◌}
use Rattle.memory_table.specs.Order.{Entry}
use Rattle.memory_layout.specs.Layout.{NONE}
use Rattle.memory.specs.Layout.{Place}

-- f for the two piece lists of a row, g for its replacement
abbrev pub count_in_entry : (Place → ℕ) → (Place → ℕ) → Entry → ℕ
count_in_entry f g e = (f e.intro + f e.outro) + g e.text

pub record Counts (f g : Place → ℕ) : Type 0 where
  pub no_pieces : (a : ℕ) → f (a, 0) ≡ 0
  pub no_bytes : (a : ℕ) → g (a, 0) ≡ 0
  pub no_text : (n : ℕ) → g (NONE, n) ≡ 0
