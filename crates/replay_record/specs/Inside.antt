-- How far a buffer is filled.
use Rattle.std.specs.Prelude.{List, ℕ, ◌≤◌, length}

pub record Inside {A : Type 0} (n : ℕ) (buffer : List A) : Type 0 where
  pub inside : n ≤ length buffer
