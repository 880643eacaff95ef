-- Marks as bits of 64-bit words: place b has its mark in bit b % 64 of word b / 64.
use Rattle.std.specs.Prelude.{Bool, List, ℕ, ◌+◌, ◌-◌, ◌*◌, ◌/◌, ◌%◌, ◌^◌, ◌≤◌, length, get_or}
use Rattle.memory.specs.WellFormed.{among}
use Rattle.check_marks.specs.Marks.{Marked}

-- bit k of a word: 0 or 1
unfoldable pub bit : ℕ → ℕ → ℕ
bit w k = w / 2 ^ k % 2

-- the mark of place b
unfoldable pub bit_at : List ℕ → ℕ → ℕ
bit_at ws b = bit (get_or ws (b / 64) 0) (b % 64)

-- a word whose n bits from lo on are set, and no others
unfoldable pub part_of : ℕ → ℕ → ℕ
part_of lo n = (2 ^ n - 1) * 2 ^ lo

-- what marking n places from at on promises
abbrev pub Stretch : Bool → List ℕ → ℕ → ℕ → List ℕ → Type 0
Stretch r ws at n ws' = Marked r (bit_at ws) (at + n ≤ length ws * 64) (among (at, n)) (bit_at ws')
