-- Numbers as bytes, the highest byte first: "all big-endian".
use Rattle.std.specs.Prelude.{ℕ, zero, suc, ◌+◌, ◌*◌, ◌/◌, ◌%◌, ◌^◌, ◌<◌, List, [], ◌∷◌, length}
use Rattle.utf8.specs.Chars.{All}

-- every element is a byte
abbrev pub Bytes : List ℕ → Type 0
Bytes s = All (λ x. x < 256) s

-- the number that bytes stand for: each times the power of 256 that its place has
unfoldable pub number : List ℕ → ℕ
number [] = 0
number (x ∷ s) = x * 256 ^ length s + number s

-- n in k bytes
unfoldable pub bytes : ℕ → ℕ → List ℕ
bytes zero n = []
bytes (suc k) n = n / 256 ^ k ∷ bytes k (n % 256 ^ k)
