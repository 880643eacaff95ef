-- Writes to a row of the list that keep its links, and the split of a row in two (`Chunk::split`).
use Rattle.std.specs.Prelude.{◌≡◌, List, ◌∷◌, ◌++◌, map, ℕ, ◌+◌}
use Rattle.memory_table.specs.Ring.{Not}
use Rattle.memory_table.specs.Table.{row_at}
use Rattle.memory_table.specs.Order.{Entry, entry_at, entries, order, count_of, Linked}
use Rattle.memory_list.specs.Insert.{runs_of}

-- the first half keeps the intro, the second takes the outro, replacement and mark go to both
abbrev pub first : ℕ → Entry → Entry
first p c = record { start = c.start; end = p; frozen = c.frozen; intro = c.intro; outro = (0, 0); text = c.text }

abbrev pub second : ℕ → Entry → Entry
second p c = record { start = p; end = c.end; frozen = c.frozen; intro = (0, 0); outro = c.outro; text = c.text }

-- ── row i of the list written as r, its links kept ──
pub record RowSet (t t' : List ℕ) (i : ℕ) (e : Entry) : Type 0 where
  pub linked : Linked t'
  pub order_is : order t' ≡ order t
  pub here : entry_at t' i ≡ e
  pub off : (a : ℕ) → Not i a → row_at t' a ≡ row_at t a
  pub place : (us bs : List ℕ) → order t ≡ us ++ i ∷ bs → entries t' ≡ map (entry_at t) us ++ e ∷ map (entry_at t) bs
  pub desk : runs_of (row_at t' 0) ≡ runs_of (row_at t 0)
  pub count : count_of t' ≡ count_of t

-- ── row 0 written with other runs ──
pub record DeskSet (t t' : List ℕ) (runs : (ℕ × ℕ) × (ℕ × ℕ)) : Type 0 where
  pub linked : Linked t'
  pub chunks : entries t' ≡ entries t
  pub desk : runs_of (row_at t' 0) ≡ runs
  pub count : count_of t' ≡ count_of t

-- ── the split: row i becomes the first half, then the second half is linked in after it ──
pub record SplitRow (t t' : List ℕ) (i p : ℕ) : Type 0 where
  pub linked : Linked t'
  pub place : (us bs : List ℕ) → order t ≡ us ++ i ∷ bs
      → entries t' ≡ map (entry_at t) us ++ first p (entry_at t i) ∷ second p (entry_at t i) ∷ map (entry_at t) bs
  pub order_is : (us bs : List ℕ) → order t ≡ us ++ i ∷ bs → order t' ≡ us ++ i ∷ (count_of t + 1) ∷ bs
  pub here : entry_at t' i ≡ first p (entry_at t i)
  pub new : entry_at t' (count_of t + 1) ≡ second p (entry_at t i)
  pub off : (a : ℕ) → Not 0 a → Not (count_of t + 1) a → Not i a → entry_at t' a ≡ entry_at t a
  pub desk : runs_of (row_at t' 0) ≡ runs_of (row_at t 0)
  pub count : count_of t' ≡ count_of t + 1
