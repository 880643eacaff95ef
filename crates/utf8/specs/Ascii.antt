-- What `ascii_to` promises: a part of a text that is ASCII.
use Rattle.std.specs.Prelude.{ℕ, ◌≤◌, ◌<◌, List, length, get_or}

-- the bytes from i up to r are below 80
pub record Ascii (s : List ℕ) (i r : ℕ) : Type 0 where
  pub after : i ≤ r
  pub inside : r ≤ length s
  pub each : (k : ℕ) → i ≤ k → k < r → get_or s k 0 < 0x80
