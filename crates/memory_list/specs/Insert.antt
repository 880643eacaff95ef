-- A new row, linked in after row i.
use Rattle.std.specs.Prelude.{◌≡◌, List, ◌∷◌, ◌++◌, ℕ, ◌+◌}
use Rattle.memory_table.specs.declared.Row.{Row}
use Rattle.memory_table.specs.Ring.{Not}
use Rattle.memory_table.specs.Table.{row_at}
use Rattle.memory_table.specs.Order.{entry_of, entry_at, order, count_of, Linked}

-- row i stands in the list
pub record Placed (t : List ℕ) (i : ℕ) : Type 0 where
  pub us : List ℕ
  pub bs : List ℕ
  pub place : order t ≡ us ++ i ∷ bs

-- the runs of the desk's own row: the head and the tail
abbrev pub runs_of : Row → (ℕ × ℕ) × (ℕ × ℕ)
runs_of r = ((r.intro_at, r.intro_n), (r.outro_at, r.outro_n))

pub record LinkedIn (t t' : List ℕ) (i : ℕ) (r : Row) : Type 0 where
  pub linked : Linked t'
  pub place : (us bs : List ℕ) → order t ≡ us ++ i ∷ bs → order t' ≡ us ++ i ∷ (count_of t + 1) ∷ bs
  pub new : entry_at t' (count_of t + 1) ≡ entry_of r
  pub old : (a : ℕ) → Not 0 a → Not (count_of t + 1) a → entry_at t' a ≡ entry_at t a
  pub desk : runs_of (row_at t' 0) ≡ runs_of (row_at t 0)
  pub count : count_of t' ≡ count_of t + 1

abbrev pub with_links : Row → ℕ → ℕ → Row
with_links r n p =
    record {
      start = r.start;
      end = r.end;
      next = n;
      prev = p;
      intro_at = r.intro_at;
      intro_n = r.intro_n;
      outro_at = r.outro_at;
      outro_n = r.outro_n;
      text_at = r.text_at;
      text_n = r.text_n;
      frozen = r.frozen;
      spare = r.spare;
    }
