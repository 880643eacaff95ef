-- A run with a text more, on top of the piece table. No text of the run is copied, and no row of it where it ends at the top already.
use Rattle.std.specs.Prelude.{◌≡◌, Bool, true, false, List, [], ◌∷◌, ◌++◌, ℕ, suc, ◌+◌, ◌*◌, ◌≤◌, ◌<◌, length, take}
use Rattle.memory.specs.Layout.{Place, piece_at, tabulate}

-- the places of a run's texts
abbrev pub places_of : List ℕ → Place → List Place
places_of p x = tabulate (λ k. piece_at p (x.0 + k)) x.1

-- with one more in front or behind
abbrev pub with_place : Bool → Place → List Place → List Place
with_place true x l = x ∷ l
with_place false x l = l ++ (x ∷ [])

-- the run lies below the row, and there is room from the row on for its rows and one more
pub record TopRoom (x : Place) (p : List ℕ) (row : ℕ) : Type 0 where
  pub under : 0 < x.1 → x.0 + x.1 ≤ row
  pub rows_in : (row + x.1 + 1) * 2 ≤ length p

-- the run that begins at `first` has the places of the run x and the place y; no row below `row` is written. It begins at the row, or where x does, if x ends there
pub record Lengthened (front : Bool) (y x : Place) (row : ℕ) (p p' : List ℕ) (first : ℕ) : Type 0 where
  pub under : take (row * 2) p' ≡ take (row * 2) p
  pub length_is : length p' ≡ length p
  pub places : places_of p' (first, suc x.1) ≡ with_place front y (places_of p x)
  pub to : first ≤ row
  pub from : row ≤ first + x.1
  pub here : first < row → (first ≡ x.0) × (x.0 + x.1 ≡ row)
