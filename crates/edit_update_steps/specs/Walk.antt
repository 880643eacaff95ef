-- The walk of `update_with` on rows: from the chunk that starts at a along the list, each later chunk cleared as it is passed.
use Rattle.std.specs.Prelude.{◌≡◌, Bool, true, false, cond, List, [], ◌∷◌, ◌++◌, map, ℕ, eqb, Option, Some, None}
use Rattle.memory_table.specs.declared.Row.{Row}
use Rattle.memory_table.specs.Table.{row_at}
use Rattle.memory_table.specs.Order.{Entry, entry_of, entry_at, entries, order, Linked}
use Rattle.memory_list.specs.declared.Key.TheVariants.{Start}
use Rattle.memory_list.specs.Find.{meets, First}
use Rattle.memory_list.specs.Insert.{runs_of}

-- the entries that a walk leaves, and whether it came to the end of the range
pub record RunWalk : Type 0 where
  pub done : Bool
  pub list : List Entry

abbrev pub onto : Entry → RunWalk → RunWalk
onto e w = record { done = w.done; list = e ∷ w.list }

-- no pieces, and an empty replacement
abbrev pub emptied : Entry → Entry
emptied e = record { start = e.start; end = e.end; frozen = e.frozen; intro = (0, 0); outro = (0, 0); text = (0, 0) }

-- `clear_run` of the model
abbrev pub runs : ℕ → ℕ → List Entry → RunWalk
runs at end [] = record { done = eqb at end; list = [] }
runs at end (e ∷ es) =
    let r : RunWalk = onto (emptied e) (runs e.end end es) in
    cond (eqb at end) (record { done = true; list = e ∷ es }) (cond (eqb e.start at) r (record { done = false; list = e ∷ es }))

-- from the entry that starts at `start`, which itself stays
abbrev pub walk_from : ℕ → ℕ → List Entry → RunWalk
walk_from start end [] = record { done = false; list = [] }
walk_from start end (e ∷ es) = cond (eqb e.start start) (onto e (runs e.end end es)) (onto e (walk_from start end es))

-- ── the run behind row i ──
pub record RunCleared (t t' : List ℕ) (i end : ℕ) (r : Bool) : Type 0 where
  pub linked : Linked t'
  pub order_is : order t' ≡ order t
  pub desk : runs_of (row_at t' 0) ≡ runs_of (row_at t 0)
  pub starts : (x : ℕ) → (entry_at t' x).start ≡ (entry_at t x).start
  pub chunks : (us bs : List ℕ) → order t ≡ us ++ i ∷ bs
      → (entries t' ≡ map (entry_at t) us ++ entry_at t i ∷ (runs (entry_at t i).end end (map (entry_at t) bs)).list) × (r ≡ (runs (entry_at t i).end end (map (entry_at t) bs)).done)

pub record Emptied (c r : Row) : Type 0 where
  pub entry_is : entry_of r ≡ emptied (entry_of c)
  pub next : r.next ≡ c.next
  pub prev : r.prev ≡ c.prev

-- ── the whole walk ──
-- the answer: the first row of the range, which is edited last, or nothing where the list order breaks it
abbrev pub WalkEnd : ℕ → Bool → List ℕ → Option ℕ → Type 0
WalkEnd a d t' (Some i) = (d ≡ true) × First (meets Start a) t' i
WalkEnd a d t' None = d ≡ false

pub record Walked (a b : ℕ) (t t' : List ℕ) (r : Option ℕ) : Type 0 where
  pub linked : Linked t'
  pub order_is : order t' ≡ order t
  pub desk : runs_of (row_at t' 0) ≡ runs_of (row_at t 0)
  pub chunks : entries t' ≡ (walk_from a b (entries t)).list
  pub ended : WalkEnd a (walk_from a b (entries t)).done t' r
