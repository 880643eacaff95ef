-- A list in which each of the numbers 1 to n stands once: sums over it, and what holds of its members, go by the numbers.
use Rattle.std.specs.Prelude.{ℕ, ◌≤◌, ◌<◌}

-- a number from 1 to n
abbrev pub In : ℕ → ℕ → Type 0
In n x = (0 < x) × (x ≤ n)
