-- What marking promises: nothing gets a second mark. And what a pass over a table has seen: a bound above it all.
use Rattle.std.specs.Prelude.{◌≡◌, Bool, true, false, Option, Some, None, List, ℕ, ◌+◌, ◌*◌, ◌≤◌, get_or}
use Rattle.memory_layout.specs.Layout.{ROW}
use Rattle.memory_table.specs.Order.{Entry, entry_at}
use Rattle.memory.specs.Layout.{Place}
use Rattle.memory_counting.specs.Counts.{Decides, sum_to}

-- word k of row i of the chunk table, and the place that words k and k + 1 give
abbrev pub cell : List ℕ → ℕ → ℕ → ℕ
cell t i k = get_or t (i * ROW + k) 0

abbrev pub place_at : List ℕ → ℕ → ℕ → Place
place_at t i k = (cell t i k, cell t i (k + 1))

-- how many pieces a row's two runs have, and those of row 0 and of rows 1 to n
abbrev pub entry_piece_count : Entry → ℕ
entry_piece_count e = e.intro.1 + e.outro.1

abbrev pub piece_total : List ℕ → ℕ → ℕ
piece_total t n = entry_piece_count (entry_at t 0) + sum_to (λ k. entry_piece_count (entry_at t (k + 1))) n

-- ── marking ──
-- m b is how many marks b has: 0 or 1. Marks in a list
unfoldable pub mark_at : List ℕ → ℕ → ℕ
mark_at m b = get_or m b 0

unfoldable pub Bits : {B : Type 0} → (B → ℕ) → Type 0
Bits {B} m = (b : B) → m b ≤ 1

-- what is to be marked fits, as F says, and nothing gets a second mark; f b is how often b is marked
pub record Free {B : Type 0} (m : B → ℕ) (F : Type 0) (f : B → ℕ) : Type 0 where
  pub fits : F
  pub free : (b : B) → m b + f b ≤ 1

pub record Marked {B : Type 0} (r : Bool) (m : B → ℕ) (F : Type 0) (f m' : B → ℕ) : Type 0 where
  pub decides : Decides r (Free m F f)
  pub marks : r ≡ true → (b : B) → m' b ≡ m b + f b

-- ── what a pass has seen ──
-- a bound top' above top and above what E says, and no higher than it must be; `le` says which of two bounds is the lower one
pub record Raised {W : Type 0} (le : W → W → Type 0) (top : W) (E : W → Type 0) (top' : W) : Type 0 where
  pub above : (w : W) → le top' w → le top w × E w
  pub least : (w : W) → le top w → E w → le top' w

-- what is to be marked lies below `size`, as E says, and nothing gets a second mark; if so, the bound is raised
pub record Passed {B W : Type 0} (r : Bool) (le : W → W → Type 0) (size : W) (m : B → ℕ) (top : W) (E : W → Type 0) (f m' : B → ℕ) (top' : W) : Type 0 where
  pub marked : Marked r m (E size) f m'
  pub raised : r ≡ true → Raised le top E top'

-- by an answer that is the bound then, or none
abbrev pub Answered : {W : Type 0} → (Bool → W → Type 0) → W → Option W → Type 0
Answered P top (Some w) = P true w
Answered P top None = P false top
