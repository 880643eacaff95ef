-- The laws of valid texts and of places between characters that other crates cite. `utf8_nil` stands in specs/Texts.antt, `between_zero`, `between_past` and `between_at` in specs/Boundaries.antt.
use mathlib.Core.Path.{◌≡◌, refl, sym, ap, ◌∙◌}
use mathlib.Core.Bool.{true}
use mathlib.Core.List.{List, [], ◌∷◌, ◌++◌, append_assoc}
use Prim.Native.Nat.{ℕ, suc, ◌+◌, ◌-◌, ◌<◌, ◌≤◌}
use native.Mathlib.Omega.{arith}
use lib.ListN.{length, get_or, take, drop, take-append-drop}
use lib.Seq.{take-add}
use lib.Bits.{bit_or, or_add_and, and_le_l, and_le_r}
use Rattle.utf8.specs.Rfc3629.{utf8, between}
use Rattle.utf8.proofs.Encode.{Text, none, more, encode}
use Rattle.utf8.specs.Chars.{All, nil, cons}
use Rattle.utf8.proofs.Sequences.{at_start, seq_1}
use Rattle.utf8.proofs.Texts.{utf8_nil, cons_char, whole_drop}
use Rattle.utf8.proofs.Encoded.{utf8_encode, valid_is_text}

text_front : {s : List ℕ} → Text s → (t : List ℕ) → utf8 (s ++ t) ≡ utf8 t
text_front none t = refl
text_front (more v {s} e x) t = ap utf8 (append_assoc (encode v) s t) ∙ utf8_encode v (s ++ t) e ∙ text_front x t

-- a text in front of a list passes on to the list
pub utf8_front : (s t : List ℕ) → utf8 s ≡ true → utf8 (s ++ t) ≡ utf8 t
utf8_front s t h = text_front (valid_is_text s h) t

pub utf8_append : (s t : List ℕ) → utf8 s ≡ true → utf8 t ≡ true → utf8 (s ++ t) ≡ true
utf8_append s t h k = utf8_front s t h ∙ k

pub between_take : (s : List ℕ) (p : ℕ) → between s p ≡ true → utf8 (take p s) ≡ true
unfolding between
between_take s p h = h

pub take_between : (s : List ℕ) (p : ℕ) → utf8 (take p s) ≡ true → between s p ≡ true
unfolding between
take_between s p h = h

pub utf8_drop : (s : List ℕ) (p : ℕ) → utf8 s ≡ true → between s p ≡ true → utf8 (drop p s) ≡ true
utf8_drop s p h k = sym (utf8_front (take p s) (drop p s) (between_take s p k)) ∙ ap utf8 (take-append-drop p s) ∙ h

pub utf8_part : (s : List ℕ) (a b : ℕ) → utf8 s ≡ true → between s a ≡ true → between s b ≡ true → a ≤ b → utf8 (take (b - a) (drop a s)) ≡ true
utf8_part s a b h j k l =
    let e : a + (b - a) ≡ b = omega arith in
    sym (utf8_front (take a s) (take (b - a) (drop a s)) (between_take s a j)) ∙ ap utf8 (sym (take-add a (b - a) s)) ∙ rw e (between_take s b k)

-- a byte below 80 is a character of its own
pub utf8_byte : (a : ℕ) (s : List ℕ) → a < 0x80 → utf8 (a ∷ s) ≡ utf8 s
utf8_byte a s h = cons_char a s a 1 (at_start (a ∷ s) 0 (omega arith) ∙ seq_1 a _ _ _ h) ∙ whole_drop s 0 (omega arith)

pub ascii_utf8 : (s : List ℕ) → All (λ b. b < 0x80) s → utf8 s ≡ true
ascii_utf8 [] nil = utf8_nil
ascii_utf8 (a ∷ s) (cons h k) = utf8_byte a s h ∙ ascii_utf8 s k

-- the same with each byte by its place
pub ascii_each : (s : List ℕ) → ((k : ℕ) → k < length s → get_or s k 0 < 0x80) → utf8 s ≡ true
ascii_each [] h = utf8_nil
ascii_each (a ∷ s) h = utf8_byte a s (h 0 (omega arith)) ∙ ascii_each s (λ k l. h (suc k) (omega arith))

-- ---- joining bits makes no number smaller

pub or_left : (a b : ℕ) → a ≤ bit_or a b
or_left a b = omega (arith, or_add_and a b, and_le_r a b)

pub or_right : (a b : ℕ) → b ≤ bit_or a b
or_right a b = omega (arith, or_add_and a b, and_le_l a b)
