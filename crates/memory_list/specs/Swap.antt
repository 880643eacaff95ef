-- Two neighbouring parts of a ring change places: what a move of a run of chunks does to the links and to the order.
use Rattle.std.specs.Prelude.{List, [], ◌∷◌, ℕ}

abbrev pub last_of : ℕ → List ℕ → ℕ
last_of i [] = i
last_of i (x ∷ xs) = last_of x xs
