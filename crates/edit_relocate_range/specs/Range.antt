-- The rows of a range, as far as they stand together in the list: what `segment` of the model, and `update_walk`, go along.
use Rattle.std.specs.Prelude.{◌≡◌, Bool, false, ◌&&◌, not, List, [], ◌∷◌, ◌++◌, ℕ, eqb}
use Rattle.memory_layout.specs.Layout.{LIST_END}
use Rattle.memory_table.specs.Ring.{Each}
use Rattle.memory_table.specs.Table.{row_at}
use Rattle.memory_table.specs.Order.{entry_at, order}
use Rattle.memory_list.specs.declared.Key.TheVariants.{Start}
use Rattle.memory_list.specs.Find.{meets}
use Rattle.memory_list.specs.Swap.{last_of}
use Rattle.edit_relocate_range.specs.declared.Range.{Range}
use Rattle.edit_relocate_range.specs.declared.Range.TheVariants.{Whole, Broken, Nothing}

-- there is a row n, and it starts at y
unfoldable pub goes_on : List ℕ → ℕ → ℕ → Bool
goes_on t n y = not (eqb n LIST_END) && eqb (row_at t n).start y

-- row i, then the rows xs: each starts where the one before it ends, which is not b
abbrev pub Follows : List ℕ → ℕ → ℕ → List ℕ → Type 0
Follows t b i [] = Unit {0}
Follows t b i (x ∷ xs) = ((entry_at t i).end ≡ b → ⊥) × ((entry_at t x).start ≡ (entry_at t i).end) × Follows t b x xs

-- the list taken apart: f is its first row that starts at a, and the walk has come to l
pub record Walked (t : List ℕ) (a b f l : ℕ) : Type 0 where
  pub us : List ℕ
  pub xs : List ℕ
  pub ys : List ℕ
  pub place : order t ≡ us ++ f ∷ (xs ++ ys)
  pub none : Each (λ x. meets Start a (entry_at t x) ≡ false) us
  pub here : (entry_at t f).start ≡ a
  pub follows : Follows t b f xs
  pub last : l ≡ last_of f xs

-- the rows ys do not go on at y
abbrev pub Gap : List ℕ → ℕ → List ℕ → Type 0
Gap t y [] = Unit {0}
Gap t y (x ∷ xs) = (entry_at t x).start ≡ y → ⊥

pub record WholeRange (t : List ℕ) (a b f l : ℕ) : Type 0 where
  pub walked : Walked t a b f l
  pub ends : (entry_at t l).end ≡ b

pub record BrokenRange (t : List ℕ) (a b f l : ℕ) : Type 0 where
  pub walked : Walked t a b f l
  pub short : (entry_at t l).end ≡ b → ⊥
  pub gap : Gap t (entry_at t l).end walked.ys

abbrev pub RangeIn : List ℕ → ℕ → ℕ → Range → Type 0
RangeIn t a b (Whole f l) = WholeRange t a b f l
RangeIn t a b (Broken f l) = BrokenRange t a b f l
RangeIn t a b Nothing = Each (λ x. meets Start a (entry_at t x) ≡ false) (order t)
