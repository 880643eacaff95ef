-- RFC 3629, section 4, "Syntax of UTF-8 Byte Sequences": the grammar, rule by rule. Each rule stands under the RFC's line.
-- `valid_is_abnf` and `abnf_is_valid` (proofs/AbnfLaws.antt) say that it accepts exactly the lists of which `utf8` holds.
use Rattle.std.specs.Prelude.{ℕ, ◌≤◌, List, [], ◌∷◌, ◌++◌, ◌⊎◌, replicate}

infix 90 ◌–◌
-- %xA0-BF is written 0xA0 – 0xBF, and %xE0 only 0xE0. n( r ) is replicate n r. A rule is the list of its alternatives, and a / b is a ++ b.
pub data Range : Type 0 where
  ◌–◌ : ℕ → ℕ → Range

abbrev pub only : ℕ → Range
only b = b – b

abbrev pub Rule : Type 0
Rule = List (List Range)

-- UTF8-tail = %x80-BF
abbrev pub UTF8_tail : Range
UTF8_tail = 0x80 – 0xBF

-- UTF8-1 = %x00-7F
abbrev pub UTF8_1 : Rule
UTF8_1 = (0x00 – 0x7F ∷ []) ∷ []

-- UTF8-2 = %xC2-DF UTF8-tail
abbrev pub UTF8_2 : Rule
UTF8_2 = (0xC2 – 0xDF ∷ UTF8_tail ∷ []) ∷ []

-- UTF8-3 = %xE0 %xA0-BF UTF8-tail / %xE1-EC 2( UTF8-tail ) /
--          %xED %x80-9F UTF8-tail / %xEE-EF 2( UTF8-tail )
abbrev pub UTF8_3 : Rule
UTF8_3 =
    (only 0xE0 ∷ 0xA0 – 0xBF ∷ UTF8_tail ∷ []) ∷ (0xE1 – 0xEC ∷ replicate 2 UTF8_tail) ∷
    (only 0xED ∷ 0x80 – 0x9F ∷ UTF8_tail ∷ []) ∷ (0xEE – 0xEF ∷ replicate 2 UTF8_tail) ∷ []

-- UTF8-4 = %xF0 %x90-BF 2( UTF8-tail ) / %xF1-F3 3( UTF8-tail ) /
--          %xF4 %x80-8F 2( UTF8-tail )
abbrev pub UTF8_4 : Rule
UTF8_4 =
    (only 0xF0 ∷ 0x90 – 0xBF ∷ replicate 2 UTF8_tail) ∷ (0xF1 – 0xF3 ∷ replicate 3 UTF8_tail) ∷
    (only 0xF4 ∷ 0x80 – 0x8F ∷ replicate 2 UTF8_tail) ∷ []

-- UTF8-char = UTF8-1 / UTF8-2 / UTF8-3 / UTF8-4
abbrev pub UTF8_char : Rule
UTF8_char = UTF8_1 ++ (UTF8_2 ++ (UTF8_3 ++ UTF8_4))

-- a byte of a range
abbrev pub In : Range → ℕ → Type 0
In (low – high) b = (low ≤ b) × (b ≤ high)

-- bytes, each of its range
abbrev pub Fits : List Range → List ℕ → Type 0
Fits [] [] = Unit {0}
Fits [] (b ∷ bs) = ⊥
Fits (r ∷ rs) [] = ⊥
Fits (r ∷ rs) (b ∷ bs) = In r b × Fits rs bs

-- bytes of one of a rule's alternatives
abbrev pub OneOf : Rule → List ℕ → Type 0
OneOf [] c = ⊥
OneOf (x ∷ xs) c = Fits x c ⊎ OneOf xs c

-- UTF8-octets = *( UTF8-char )
pub data UTF8Octets : List ℕ → Type 0 where
  no_octets : UTF8Octets []
  char_then : (c : List ℕ) {s : List ℕ} → OneOf UTF8_char c → UTF8Octets s → UTF8Octets (c ++ s)
