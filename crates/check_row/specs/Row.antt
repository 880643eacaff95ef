-- One row of the chunk table: where its links lead, and its span.
use Rattle.std.specs.Prelude.{Option, Some, None, List, ℕ, ◌+◌, ◌-◌, ◌*◌, ◌≤◌, ◌<◌, length, get_or}
use Rattle.memory_layout.specs.Layout.{ROW}
use Rattle.memory_table.specs.Ring.{Edge}
use Rattle.memory_counting.specs.Once.{In}
use Rattle.check_row.specs.declared.Link.{Link}
use Rattle.check_row.specs.declared.Link.TheVariants.{Next, Prev}
use Rattle.check_spans.specs.Spans.{start_of, end_of, Edged}

-- the word of a row that has a link
abbrev pub word_of : Link → ℕ
word_of Next = 2
word_of Prev = 3

-- where word k of a row leads: word 2 to the next row, word 3 to the one before. So the other of the two is word 5 - k
abbrev pub leads : List ℕ → ℕ → ℕ → ℕ
leads t k i = get_or t (i * ROW + k) 0

-- word k of row a leads to b, and the other word of b back to a
abbrev pub Joint : List ℕ → ℕ → ℕ → ℕ → Type 0
Joint t k a b = Edge (leads t k) (leads t (5 - k)) a b

-- row x may come after a, by word k
pub record Behind (t : List ℕ) (n k a x : ℕ) : Type 0 where
  pub near : In n x
  pub edge : Joint t k a x

-- x comes after a, or none may
abbrev pub LinkedRow : List ℕ → ℕ → ℕ → ℕ → Option ℕ → Type 0
LinkedRow t n k a (Some x) = Behind t n k a x
LinkedRow t n k a None = (y : ℕ) → Behind t n k a y → ⊥

-- the span of row i is not empty, ends inside the source, and both its ends stand between characters
pub record Proper (source t : List ℕ) (i : ℕ) : Type 0 where
  pub filled : start_of t i < end_of t i
  pub inside : end_of t i ≤ length source
  pub edged : Edged source (start_of t i) (end_of t i)
