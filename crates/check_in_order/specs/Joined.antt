-- What is tested of one row where the spans follow one another in the order of the list.
use Rattle.std.specs.Prelude.{◌≡◌, true, List, ℕ, ◌≤◌, length}
use Rattle.utf8.specs.Rfc3629.{between}
use Rattle.memory_table.specs.Order.{next_of, prev_of}
use Rattle.check_spans.specs.Spans.{start_of}

-- row i, whose span ends at e, between characters: the row behind it is linked back to it and starts there; the last one ends at the source's end
pub record Joined (source t : List ℕ) (n i e : ℕ) : Type 0 where
  pub near : next_of t i ≤ n
  pub back : prev_of t (next_of t i) ≡ i
  pub start : (next_of t i ≡ 0 → ⊥) → start_of t (next_of t i) ≡ e
  pub last : next_of t i ≡ 0 → e ≡ length source
  pub inside : e ≤ length source
  pub edge : between source e ≡ true
