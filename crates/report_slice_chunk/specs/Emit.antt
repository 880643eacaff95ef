-- Writing to a buffer, or only counting.
use Rattle.std.specs.Prelude.{◌≡◌, Bool, true, cond, List, ℕ, ◌+◌, ◌^◌, ◌≤◌, ◌<◌, length}
use Rattle.memory_texts.specs.Over.{over}

abbrev pub over_if : Bool → List ℕ → ℕ → List ℕ → List ℕ
over_if w d o x = cond w (over d o x) d

pub record Emitted (w : Bool) (d : List ℕ) (o : ℕ) (x d' : List ℕ) (r : ℕ) : Type 0 where
  pub out_is : d' ≡ over_if w d o x
  pub next_is : r ≡ o + length x

-- room for n bytes from o on, where they are written; the place behind them fits a word
pub record Room (w : Bool) (d : List ℕ) (o n : ℕ) : Type 0 where
  pub fits : w ≡ true → o + n ≤ length d
  pub small : o + n < 2 ^ 32
