-- The chunks that start in a range are changed: rows in the order of their numbers, the list as it stands.
use Rattle.std.specs.Prelude.{◌≡◌, List, map, Bool, ◌&&◌, cond, ℕ, leb, ltb}
use Rattle.memory_list.specs.declared.Change.{Change}
use Rattle.memory_list.specs.declared.Change.TheVariants.{Clear, Freeze}
use Rattle.memory_table.specs.declared.Row.{Row}
use Rattle.memory_table.specs.Ring.{Not}
use Rattle.memory_table.specs.Table.{row_at}
use Rattle.memory_table.specs.Order.{Entry, entry_of, entry_at, entries, order, next_of, prev_of, Linked}

-- a chunk loses its pieces and gets a replacement at the place v, which is empty, or v is the mark for none; or it gets the mark of a frozen part
abbrev pub changed_by : Change → Entry → Entry
changed_by (Clear v) e = record { start = e.start; end = e.end; frozen = e.frozen; intro = (0, 0); outro = (0, 0); text = (v, 0) }
changed_by Freeze e = record { start = e.start; end = e.end; frozen = 1; intro = e.intro; outro = e.outro; text = e.text }

-- from a up to but without b
abbrev pub entry_starts_in : ℕ → ℕ → Entry → Bool
entry_starts_in a b e = leb a e.start && ltb e.start b

abbrev pub change_in : Change → ℕ → ℕ → Entry → Entry
change_in x a b e = cond (entry_starts_in a b e) (changed_by x e) e

-- row r as x changes it, its links kept
pub record ChangedRow (x : Change) (r r' : Row) : Type 0 where
  pub entry : entry_of r' ≡ changed_by x (entry_of r)
  pub next : r'.next ≡ r.next
  pub prev : r'.prev ≡ r.prev

-- row k is changed if it starts in the range, and all else is as before
pub record ChangedAt (x : Change) (a b : ℕ) (t t' : List ℕ) (k : ℕ) : Type 0 where
  pub here : entry_at t' k ≡ change_in x a b (entry_at t k)
  pub off : (i : ℕ) → Not k i → row_at t' i ≡ row_at t i
  pub next : (i : ℕ) → next_of t' i ≡ next_of t i
  pub prev : (i : ℕ) → prev_of t' i ≡ prev_of t i

pub record ChangeDone (x : Change) (a b : ℕ) (t t' : List ℕ) : Type 0 where
  pub linked : Linked t'
  pub place : order t' ≡ order t
  pub chunks : entries t' ≡ map (change_in x a b) (entries t)
  pub desk : row_at t' 0 ≡ row_at t 0
