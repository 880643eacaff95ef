-- What `width` promises: the width of a character by its first byte.
use Rattle.std.specs.Prelude.{ℕ, ◌<◌, ◌≤◌, ◌≡◌}

-- RFC 3629, section 3, the table, row by row: r is how many bytes a character has whose first byte is a. The rows begin 0xxxxxxx, 110xxxxx, 1110xxxx and 11110xxx.
-- Of 80 to BF and F8 to FF, which begin no character, nothing is said.
pub record WidthFrom (a r : ℕ) : Type 0 where
  pub one : a < 0x80 → r ≡ 1
  pub two : 0xC0 ≤ a → a < 0xE0 → r ≡ 2
  pub three : 0xE0 ≤ a → a < 0xF0 → r ≡ 3
  pub four : 0xF0 ≤ a → a < 0xF8 → r ≡ 4
