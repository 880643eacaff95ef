-- The tests of `indent_with` that come behind 15 and 1.
use Rattle.std.specs.Prelude.{Bool, not, cond, ℕ}

-- 3, then 20 where a chunk is marked
abbrev pub refusal : Bool → Bool → ℕ
refusal placed marked = cond (not placed) 3 (cond marked 20 0)
