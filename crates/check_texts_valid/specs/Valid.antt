-- The texts of a chunk table by row number are UTF-8: those of row 0's two runs, and all of rows 1 to n.
use Rattle.std.specs.Prelude.{List, ℕ, ◌+◌, ◌<◌}
use Rattle.utf8.specs.Chars.{All}
use Rattle.memory_table.specs.Order.{Entry, entry_at}
use Rattle.model.specs.WellFormed.{Valid, ValidTexts}
use Rattle.memory.specs.Layout.{run_of, texts_of}

pub record ListsValid (p s : List ℕ) (e : Entry) : Type 0 where
  pub intro : All Valid (run_of p s e.intro)
  pub outro : All Valid (run_of p s e.outro)

pub record TextsValid (t p s : List ℕ) (n : ℕ) : Type 0 where
  pub desk : ListsValid p s (entry_at t 0)
  pub chunks : (k : ℕ) → k < n → ValidTexts (texts_of p s (entry_at t (k + 1)))
