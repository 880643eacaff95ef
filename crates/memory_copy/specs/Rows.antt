-- Rows of the piece table, word by word.
use Rattle.std.specs.Prelude.{List, ℕ, ◌*◌, take, drop}
use Rattle.memory.specs.Layout.{Place}

-- the words of a run's rows
abbrev pub row_words : List ℕ → Place → List ℕ
row_words p x = take (x.1 * 2) (drop (x.0 * 2) p)
