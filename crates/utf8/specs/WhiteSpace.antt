-- Unicode's property White_Space (PropList.txt), 25 code points: document 01's "Blanks", and what Rust's `char::is_whitespace` accepts.
use Rattle.std.specs.Prelude.{ℕ, Bool, false, ◌&&◌, ◌||◌, List, [], ◌∷◌, leb, eqb}

abbrev pub within : ℕ → ℕ → ℕ → Bool
within low high v = leb low v && leb v high

abbrev pub one_of : List ℕ → ℕ → Bool
one_of [] v = false
one_of (k ∷ ks) v = eqb v k || one_of ks v

-- those that stand alone
abbrev pub spaces : List ℕ
spaces = 0x20 ∷ 0x85 ∷ 0xA0 ∷ 0x1680 ∷ 0x202F ∷ 0x205F ∷ 0x3000 ∷ []

-- 9 to D, 2000 to 200A, 2028 and 2029, and those that stand alone
unfoldable pub white_space : ℕ → Bool
white_space v = one_of spaces v || within 0x9 0xD v || within 0x2000 0x200A v || within 0x2028 0x2029 v
