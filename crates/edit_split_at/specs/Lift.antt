-- From entries to the model: what a change of the rows of a chunk table means for the desk that it holds with given pieces and store.
use Rattle.std.specs.Prelude.{Bool, false, cond, List, ℕ, ◌≤◌, ltb, eqb, length}
use Rattle.utf8.specs.Chars.{All, concat}
use Rattle.memory_table.specs.Order.{Entry, entry_at, entries}
use Rattle.model.specs.Limits.{full}
use Rattle.memory_layout.specs.Layout.{NONE}
use Rattle.memory.specs.Layout.{Place, run_of}

-- ── runs that keep the limits by themselves ──
pub record RunSmall (p s : List ℕ) (r : Place) : Type 0 where
  pub pieces : length (run_of p s r) ≤ full.most_pieces
  pub bytes : length (concat (run_of p s r)) ≤ full.most_bytes

pub record EntrySmall (p s : List ℕ) (e : Entry) : Type 0 where
  pub intro : RunSmall p s e.intro
  pub outro : RunSmall p s e.outro

-- every run of the desk
pub record DeskSmall (t p s : List ℕ) : Type 0 where
  pub desk : EntrySmall p s (entry_at t 0)
  pub chunks : All (EntrySmall p s) (entries t)

-- ── a replacement that is not empty ──
abbrev pub filled : Entry → Bool
filled e = cond (eqb e.text.0 NONE) false (ltb 0 e.text.1)
