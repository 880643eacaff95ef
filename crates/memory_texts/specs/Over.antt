-- A list written over a part of another, as `put` leaves it.
use Rattle.std.specs.Prelude.{◌≡◌, List, ◌++◌, ℕ, ◌+◌, length, take, drop}

-- d, with xs in the place of what stood there from at
unfoldable pub over : List ℕ → ℕ → List ℕ → List ℕ
over d at xs = take at d ++ (xs ++ drop (at + length xs) d)

-- what writing xs into d from a place leaves, and the place after it
pub record Wrote (d : List ℕ) (place : ℕ) (xs : List ℕ) (d' : List ℕ) (r : ℕ) : Type 0 where
  pub out_is : d' ≡ over d place xs
  pub next_is : r ≡ place + length xs
