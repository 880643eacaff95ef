-- A text's characters, each as its bytes: what Rust's `str::chars` goes through. Defined on every list of bytes, a text or not.
use Rattle.std.specs.Prelude.{ℕ, cond, get_or, leb}
use mathlib.Core.List.{List, [], ◌∷◌, flatten}
use Rattle.utf8.specs.Rfc3629.{follows, decode_at, code_of}

-- every element of a list
module _ {A : Type 0} where
  pub data All (P : A → Type 0) : List A → Type 0 where
    nil : All P []
    cons : {x : A} {xs : List A} → P x → All P xs → All P (x ∷ xs)

-- a byte in front of the first of some characters
unfoldable pub to_first : ℕ → List (List ℕ) → List (List ℕ)
to_first a [] = (a ∷ []) ∷ []
to_first a (c ∷ cs) = (a ∷ c) ∷ cs

-- Rust's `str::chars`: a character is a byte and the following bytes (80 to BF) behind it
unfoldable pub chars : List ℕ → List (List ℕ)
chars [] = []
chars (a ∷ s) = let r = chars s in cond (follows (get_or s 0 0)) (to_first a r) ((a ∷ []) ∷ r)

-- texts one behind the other: the library's `flatten`
abbrev pub concat : List (List ℕ) → List ℕ
concat cs = flatten cs

-- the code of a character's bytes; 0 where they are no character
unfoldable pub code : List ℕ → ℕ
code c = code_of (decode_at c 0)

-- Rust's `char::len_utf16`: a character from 10000 on is two UTF-16 units, every other one
unfoldable pub utf16_width : List ℕ → ℕ
utf16_width c = cond (leb 0x10000 (code c)) 2 1
