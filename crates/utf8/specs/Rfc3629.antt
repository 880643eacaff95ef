-- RFC 3629, "UTF-8, a transformation format of ISO 10646": what stands at a place of a byte text, which texts are valid, and where their characters begin.
-- Section 3 has the forms of a sequence and forbids overlong forms, D800 to DFFF and what is above 10FFFF. Section 4 has the same as a grammar: specs/Abnf.antt.
use Rattle.std.specs.Prelude.{ℕ, zero, suc, ◌+◌, ◌-◌, ◌*◌, ◌<◌, ◌≡◌, Bool, true, false, not, ◌&&◌, List, [], ◌∷◌, length, get_or, take, ltb, leb}
use Rattle.utf8.specs.declared.Decoded.{Decoded}
use Rattle.utf8.specs.declared.Decoded.TheVariants.{Char, Invalid, End}

-- Section 3, the table: a following byte is 10xxxxxx, 80 to BF.
abbrev pub follows : ℕ → Bool
follows b = leb 0x80 b && ltb b 0xC0

abbrev pub pick : Bool → Decoded → Decoded → Decoded
pick true a b = a
pick false a b = b

-- Section 3, decoding step 3: the value of a sequence of two, three, four bytes, each following byte six bits further left than the next, so a sum of powers of 64.
abbrev pub value2 : ℕ → ℕ → ℕ
value2 a b = (a - 0xC0) * 64 + (b - 0x80)

abbrev pub value3 : ℕ → ℕ → ℕ → ℕ
value3 a b c = (a - 0xE0) * 4096 + (b - 0x80) * 64 + (c - 0x80)

abbrev pub value4 : ℕ → ℕ → ℕ → ℕ → ℕ
value4 a b c d = (a - 0xF0) * 262144 + (b - 0x80) * 4096 + (c - 0x80) * 64 + (d - 0x80)

-- Section 3: the code v, of w bytes, where it is at least low (else its form is overlong), not D800 to DFFF, and at most 10FFFF.
unfoldable pub scalar : ℕ → ℕ → ℕ → Decoded
scalar low v w = pick (leb low v && not (leb 0xD800 v && ltb v 0xE000) && ltb v 0x110000) (Char v w) Invalid

-- Section 3, the table, row by row: a sequence that begins with a is one byte 0xxxxxxx, or 110xxxxx, 1110xxxx, 11110xxx and as many following bytes as there are 1 bits behind the first.
unfoldable pub sequence : ℕ → ℕ → ℕ → ℕ → Decoded
sequence a b c d =
    pick (ltb a 0x80) (Char a 1)
    (pick (leb 0xC0 a && ltb a 0xE0 && follows b) (scalar 0x80 (value2 a b) 2)
    (pick (leb 0xE0 a && ltb a 0xF0 && follows b && follows c) (scalar 0x800 (value3 a b c) 3)
    (pick (leb 0xF0 a && ltb a 0xF8 && follows b && follows c && follows d) (scalar 0x10000 (value4 a b c d) 4) Invalid)))

-- Section 3: what stands at i. Past the end 0 is read, which is no following byte.
unfoldable pub decode_at : List ℕ → ℕ → Decoded
decode_at s i = pick (ltb i (length s)) (sequence (get_or s i 0) (get_or s (i + 1) 0) (get_or s (i + 2) 0) (get_or s (i + 3) 0)) End

-- Section 3: a character's width in bytes; 0 where there is none.
abbrev pub width_of : Decoded → ℕ
width_of (Char v w) = w
width_of Invalid = 0
width_of End = 0

-- Section 3: a character's code; 0 where there is none.
abbrev pub code_of : Decoded → ℕ
code_of (Char v w) = v
code_of Invalid = 0
code_of End = 0

-- Section 4, UTF8-octets: the bytes left are whole characters, once the first k are passed.
unfoldable pub whole_from : List ℕ → ℕ → Bool
whole_from [] zero = true
whole_from [] (suc k) = false
whole_from (a ∷ s) (suc k) = whole_from s k
whole_from (a ∷ s) zero = elim (sequence a (get_or s 0 0) (get_or s 1 0) (get_or s 2 0)) [ Char v w ↦ whole_from s (w - 1) | Invalid ↦ false | End ↦ false ]

-- Section 4, UTF8-octets: a text is characters one after the other, to the end.
unfoldable pub utf8 : List ℕ → Bool
utf8 s = whole_from s 0

-- Section 1, "Character boundaries"; document 01, "position inside a character": a place between characters, where the bytes before it are whole characters. Past the end these are the whole text.
unfoldable pub between : List ℕ → ℕ → Bool
between s p = utf8 (take p s)

-- Section 1, "Character boundaries": where a text's last character begins, the greatest place between characters before the end.
pub record LastStart (s : List ℕ) (r : ℕ) : Type 0 where
  pub inside : r < length s
  pub starts : between s r ≡ true
  pub last : (k : ℕ) → r < k → k < length s → between s k ≡ false
