-- The kinds of a record by what they have (crate `model_sheet`, `call_of`).
use Rattle.std.specs.Prelude.{ℕ, Bool, ◌||◌, eqb}

-- a range: remove, update, reset
abbrev pub is_range : ℕ → Bool
is_range kind = (eqb kind 1 || eqb kind 2) || eqb kind 3
