-- A trim of one text, from either end, and the texts of which nothing is left: the same from both ends.
use Rattle.std.specs.Prelude.{◌≡◌, Bool, true, false, List, ℕ, ◌+◌, ◌≤◌, take, drop}
use Rattle.utf8.specs.Chars.{chars, code}
use Rattle.model.specs.Text.{Text, all}
use Rattle.model.specs.Trim.{matches, trim_start_pattern, trim_end_pattern}

-- `trim_start_pattern` (from the front) or `trim_end_pattern`
abbrev pub trim_text : Bool → ℕ → Text → Text
trim_text true p s = trim_start_pattern p s
trim_text false p s = trim_end_pattern p s

-- whether nothing is left of a text: each of its characters is taken off
unfoldable pub blank : ℕ → Text → Bool
blank p s = all (λ c. matches p (code c)) (chars s)

-- a part of a text that stands at the place (at, n) of a list is trimmed to the place (r, k)
pub record PlaceTrimmed (front : Bool) (p : ℕ) (l : List ℕ) (at n r k : ℕ) : Type 0 where
  pub first : at ≤ r
  pub last : r + k ≤ at + n
  pub text : take k (drop r l) ≡ trim_text front p (take n (drop at l))
