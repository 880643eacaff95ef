-- RFC 3629, section 3, the other way: the bytes of a scalar value, and a text as encoded scalar values one after the other.
use Prim.Native.Nat.{ℕ, ◌+◌, ◌/◌, ◌%◌}
use mathlib.Core.Path.{◌≡◌}
use mathlib.Core.Bool.{Bool, true, not, ◌&&◌, cond}
use mathlib.Core.List.{List, [], ◌∷◌, ◌++◌}
use lib.Dec.{ltb, leb}

-- Section 3: a scalar value is at most 10FFFF and not D800 to DFFF. Rust's `char`.
abbrev pub is_scalar : ℕ → Bool
is_scalar v = not (leb 0xD800 v && ltb v 0xE000) && ltb v 0x110000

-- Section 3, the table: the bytes of a code by its range. Rust's `char::encode_utf8`.
unfoldable pub encode : ℕ → List ℕ
encode v =
    cond (ltb v 0x80) (v ∷ [])
    (cond (ltb v 0x800) ((0xC0 + v / 64) ∷ (0x80 + v % 64) ∷ [])
    (cond (ltb v 0x10000) ((0xE0 + v / 4096) ∷ (0x80 + v / 64 % 64) ∷ (0x80 + v % 64) ∷ [])
    ((0xF0 + v / 262144) ∷ (0x80 + v / 4096 % 64) ∷ (0x80 + v / 64 % 64) ∷ (0x80 + v % 64) ∷ [])))

-- Section 3: a text is the bytes of scalar values, one after the other. `valid_is_text` and `text_is_valid` (specs/Encoded.antt) say that these are the lists of which `utf8` holds.
pub data Text : List ℕ → Type 0 where
  none : Text []
  more : (v : ℕ) {s : List ℕ} → is_scalar v ≡ true → Text s → Text (encode v ++ s)
