-- What marking texts of the store promises.
use Rattle.std.specs.Prelude.{Option, List, ℕ, ◌+◌, ◌*◌, ◌≤◌, ◌<◌, length}
use Rattle.memory.specs.Layout.{Place, piece_at}
use Rattle.check_marks.specs.Marks.{Passed, Answered}
use Rattle.check_bit_marks.specs.BitMarks.{bit_at}

-- words with a mark for each byte of a store of this size
pub record Enough (size : ℕ) (words : List ℕ) : Type 0 where
  pub marks : size ≤ length words * 64
  pub small : length words < 0x400_0000_0000_0000

-- the texts of a run's pieces end at or before a byte
abbrev pub RunEnds : List ℕ → Place → ℕ → Type 0
RunEnds p r byte = (k : ℕ) → k < r.1 → (piece_at p (r.0 + k)).0 + (piece_at p (r.0 + k)).1 ≤ byte

-- texts that lie inside the store, as E says of its size, are marked as often as f says; and the byte behind them all
abbrev pub TextsPassed : Option ℕ → ℕ → List ℕ → ℕ → (ℕ → Type 0) → (ℕ → ℕ) → List ℕ → Type 0
TextsPassed r size words byte E f words' = Answered (λ ok top. Passed ok ◌≤◌ size (bit_at words) byte E f (bit_at words') top) byte r
