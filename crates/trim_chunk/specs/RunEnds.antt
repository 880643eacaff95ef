-- Where what is in use ends after a trim: a row of the piece table behind the runs of a row, as `Behind` says it of a replacement and a byte.
-- So a caller knows how far a trim wrote, and what it left free can be written by the next one.
use Rattle.std.specs.Prelude.{ℕ, ◌+◌, ◌≤◌, ◌<◌}
use Rattle.memory_table.specs.Order.{Entry}
use Rattle.memory.specs.Layout.{Place}

-- a run that ends at or before a row
abbrev pub RunTo : ℕ → Place → Type 0
RunTo row x = 0 < x.1 → x.0 + x.1 ≤ row

-- the least row that lies behind a row and behind a run
pub record RunBehind (row : ℕ) (x : Place) (k : ℕ) : Type 0 where
  pub least : row ≤ k
  pub run : RunTo k x
  pub most : (z : ℕ) → row ≤ z → RunTo z x → k ≤ z

-- the same of the two runs of an entry
pub record RunsTo (row : ℕ) (e : Entry) : Type 0 where
  pub intro : RunTo row e.intro
  pub outro : RunTo row e.outro

pub record RunsBehind (row : ℕ) (e : Entry) (k : ℕ) : Type 0 where
  pub least : row ≤ k
  pub runs : RunsTo k e
  pub most : (z : ℕ) → row ≤ z → RunsTo z e → k ≤ z
