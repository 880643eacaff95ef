-- A search along the list: for the entry that starts, or ends, at a position (`chunk_by_start`, `chunk_by_end`), or that contains it (`Chunk::contains`).
use Rattle.std.specs.Prelude.{◌≡◌, List, ◌∷◌, ◌++◌, Bool, true, false, ◌&&◌, ℕ, Option, Some, None, ltb, eqb}
use Rattle.memory_list.specs.declared.Key.{Key}
use Rattle.memory_list.specs.declared.Key.TheVariants.{Start, End, Inside}
use Rattle.memory_table.specs.Ring.{Each}
use Rattle.memory_table.specs.Order.{Entry, entry_at, order}

-- what is looked for
abbrev pub meets : Key → ℕ → Entry → Bool
meets Start p e = eqb e.start p
meets End p e = eqb e.end p
meets Inside p e = ltb e.start p && ltb p e.end

-- row i is the first in the list of which f holds
pub record First (f : Entry → Bool) (t : List ℕ) (i : ℕ) : Type 0 where
  pub us : List ℕ
  pub bs : List ℕ
  pub place : order t ≡ us ++ i ∷ bs
  pub none : Each (λ x. f (entry_at t x) ≡ false) us
  pub here : f (entry_at t i) ≡ true

abbrev pub FoundIn : (Entry → Bool) → List ℕ → Option ℕ → Type 0
FoundIn f t (Some i) = First f t i
FoundIn f t None = Each (λ x. f (entry_at t x) ≡ false) (order t)
