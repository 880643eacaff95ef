-- RFC 3629's two accounts agree: the grammar of section 4 accepts exactly the lists of which `utf8`, after section 3, holds: `abnf_is_valid` and `valid_is_abnf`.
use mathlib.Core.Path.{◌≡◌, sym, ◌∙◌, subst}
use mathlib.Core.Bool.{true, false, not, ◌&&◌}
use mathlib.Core.List.{List, [], ◌∷◌, ◌++◌}
use mathlib.Core.Logic.{inl, inr, ⊎_elim}
use Prim.Native.Nat.{ℕ, ◌+◌, ◌*◌, ◌/◌, ◌%◌, ◌<◌, ◌≤◌}
use native.Mathlib.Omega.{arith}
use native.Mathlib.Decide.{dec_lt}
use lib.Dec.{ltb, leb}
use lib.Pow.{shr-shr}
use borrow.Author.Tests.{lt-ltb, le-ltb, le-leb, lt-leb, ltb-true}
use Rattle.utf8.specs.Rfc3629.{follows, value2, value3, value4, utf8}
use Rattle.utf8.proofs.Encode.{is_scalar, encode, Text, none, more}
use Rattle.utf8.specs.Abnf.{Range, ◌–◌, only, UTF8_tail, UTF8_char, In, Fits, OneOf, UTF8Octets, no_octets, char_then}
use Rattle.utf8.proofs.Sequences.{both, at_start, seq_2, seq_3, seq_4}
use Rattle.utf8.proofs.Texts.{utf8_nil, passes}
use Rattle.utf8.proofs.Encoded.{accept, enc_1, enc_2, enc_3, enc_4, valid_is_text}
use Rattle.utf8.proofs.Between.{utf8_byte}

-- ---- what an alternative accepts is passed as one character

abbrev Passes : List ℕ → Type 0
Passes c = (s : List ℕ) → utf8 (c ++ s) ≡ utf8 s

tail : (b : ℕ) → In UTF8_tail b → follows b ≡ true
tail b h = simp (le-leb 0x80 b h.0, lt-ltb b 0xC0 (omega arith))

low_scalar : (v : ℕ) → v < 0xD800 → is_scalar v ≡ true
low_scalar v h = simp (lt-leb 0xD800 v h, lt-ltb v 0x110000 (omega arith))

high_scalar : (v : ℕ) → 0xE000 ≤ v → v < 0x110000 → is_scalar v ≡ true
high_scalar v h k = simp (le-leb 0xD800 v (omega arith), le-ltb v 0xE000 h, lt-ltb v 0x110000 k)

pass_2 : (a b : ℕ) → 0xC2 ≤ a → a ≤ 0xDF → In UTF8_tail b → Passes (a ∷ b ∷ [])
pass_2 a b h k t s =
    let l : List ℕ = a ∷ b ∷ s in
    let v : ℕ = value2 a b in
    passes l 0 (value2 a b) 2 (omega arith)
    (at_start l 0 (omega arith) ∙ seq_2 a b _ _ (omega arith) (omega arith) ∙ rw (tail b t) (accept 0x80 (value2 a b) 2 (omega arith) (low_scalar (value2 a b) (omega arith))))

pass_3 : (a b c : ℕ) → 0xE0 ≤ a → a ≤ 0xEF → In UTF8_tail b → In UTF8_tail c → 0x800 ≤ value3 a b c → is_scalar (value3 a b c) ≡ true → Passes (a ∷ b ∷ c ∷ [])
pass_3 a b c h k t u m e s =
    let l : List ℕ = a ∷ b ∷ c ∷ s in
    passes l 0 (value3 a b c) 3 (omega arith)
    (at_start l 0 (omega arith) ∙ seq_3 a b c _ h (omega arith) ∙ rw (tail b t, tail c u) (accept 0x800 (value3 a b c) 3 m e))

pass_4 : (a b c d : ℕ) → 0xF0 ≤ a → a ≤ 0xF4 → In UTF8_tail b → In UTF8_tail c → In UTF8_tail d → 0x10000 ≤ value4 a b c d → value4 a b c d < 0x110000 → Passes (a ∷ b ∷ c ∷ d ∷ [])
pass_4 a b c d h k t u x m n s =
    let l : List ℕ = a ∷ b ∷ c ∷ d ∷ s in
    passes l 0 (value4 a b c d) 4 (omega arith)
    (at_start l 0 (omega arith) ∙ seq_4 a b c d h (omega arith) ∙ rw (tail b t, tail c u, tail d x) (accept 0x10000 (value4 a b c d) 4 m (high_scalar (value4 a b c d) (omega arith) n)))

-- as many bytes as an alternative has
module _ (P : List ℕ → Type 0) where
  of_1 : (p : Range) → ((a : ℕ) → In p a → P (a ∷ [])) → (c : List ℕ) → Fits (p ∷ []) c → P c
  of_1 p f [] h = absurd h
  of_1 p f (a ∷ []) h = f a h.0
  of_1 p f (a ∷ b ∷ c) h = absurd h.1

  of_2 : (p q : Range) → ((a b : ℕ) → In p a → In q b → P (a ∷ b ∷ [])) → (c : List ℕ) → Fits (p ∷ q ∷ []) c → P c
  of_2 p q f [] h = absurd h
  of_2 p q f (a ∷ []) h = absurd h.1
  of_2 p q f (a ∷ b ∷ []) h = f a b h.0 h.1.0
  of_2 p q f (a ∷ b ∷ c ∷ x) h = absurd h.1.1

  of_3 : (p q r : Range) → ((a b c : ℕ) → In p a → In q b → In r c → P (a ∷ b ∷ c ∷ [])) → (c : List ℕ) → Fits (p ∷ q ∷ r ∷ []) c → P c
  of_3 p q r f [] h = absurd h
  of_3 p q r f (a ∷ []) h = absurd h.1
  of_3 p q r f (a ∷ b ∷ []) h = absurd h.1.1
  of_3 p q r f (a ∷ b ∷ c ∷ []) h = f a b c h.0 h.1.0 h.1.1.0
  of_3 p q r f (a ∷ b ∷ c ∷ d ∷ x) h = absurd h.1.1.1

  of_4 : (p q r t : Range) → ((a b c d : ℕ) → In p a → In q b → In r c → In t d → P (a ∷ b ∷ c ∷ d ∷ [])) → (c : List ℕ) → Fits (p ∷ q ∷ r ∷ t ∷ []) c → P c
  of_4 p q r t f [] h = absurd h
  of_4 p q r t f (a ∷ []) h = absurd h.1
  of_4 p q r t f (a ∷ b ∷ []) h = absurd h.1.1
  of_4 p q r t f (a ∷ b ∷ c ∷ []) h = absurd h.1.1.1
  of_4 p q r t f (a ∷ b ∷ c ∷ d ∷ []) h = f a b c d h.0 h.1.0 h.1.1.0 h.1.1.1.0
  of_4 p q r t f (a ∷ b ∷ c ∷ d ∷ x ∷ y) h = absurd h.1.1.1.1

char_passes : (c : List ℕ) → OneOf UTF8_char c → Passes c
char_passes c =
    ⊎_elim (of_1 Passes (0x00 – 0x7F) (λ a h s. utf8_byte a s (omega arith)) c)
    (⊎_elim (of_2 Passes (0xC2 – 0xDF) UTF8_tail (λ a b h k. pass_2 a b h.0 h.1 k) c)
    (⊎_elim (of_3 Passes (only 0xE0) (0xA0 – 0xBF) UTF8_tail (λ a b d h k l. pass_3 a b d (omega arith) (omega arith) (omega arith) l (omega arith) (low_scalar (value3 a b d) (omega arith))) c)
    (⊎_elim (of_3 Passes (0xE1 – 0xEC) UTF8_tail UTF8_tail (λ a b d h k l. pass_3 a b d (omega arith) (omega arith) k l (omega arith) (low_scalar (value3 a b d) (omega arith))) c)
    (⊎_elim (of_3 Passes (only 0xED) (0x80 – 0x9F) UTF8_tail (λ a b d h k l. pass_3 a b d (omega arith) (omega arith) (omega arith) l (omega arith) (low_scalar (value3 a b d) (omega arith))) c)
    (⊎_elim (of_3 Passes (0xEE – 0xEF) UTF8_tail UTF8_tail (λ a b d h k l. pass_3 a b d (omega arith) (omega arith) k l (omega arith) (high_scalar (value3 a b d) (omega arith) (omega arith))) c)
    (⊎_elim (of_4 Passes (only 0xF0) (0x90 – 0xBF) UTF8_tail UTF8_tail (λ a b d e h k l m. pass_4 a b d e (omega arith) (omega arith) (omega arith) l m (omega arith) (omega arith)) c)
    (⊎_elim (of_4 Passes (0xF1 – 0xF3) UTF8_tail UTF8_tail UTF8_tail (λ a b d e h k l m. pass_4 a b d e (omega arith) (omega arith) k l m (omega arith) (omega arith)) c)
    (⊎_elim (of_4 Passes (only 0xF4) (0x80 – 0x8F) UTF8_tail UTF8_tail (λ a b d e h k l m. pass_4 a b d e (omega arith) (omega arith) (omega arith) l m (omega arith) (omega arith)) c)
    (λ h. absurd h)))))))))

pub abnf_is_valid : {s : List ℕ} → UTF8Octets s → utf8 s ≡ true
abnf_is_valid no_octets = utf8_nil
abnf_is_valid (char_then c {s} h t) = char_passes c h s ∙ abnf_is_valid t

-- ---- the bytes of a scalar value are those of an alternative

high : (v : ℕ) → is_scalar v ≡ true → 0xD800 ≤ v → 0xE000 ≤ v
high v e h =
    elim (dec_lt v 0xE000) [
      | yes l ↦ let n : is_scalar v ≡ false = simp (le-leb 0xD800 v h, lt-ltb v 0xE000 l) in let z : ◌≡◌ {A = ℕ} 0 1 = cc in absurd (omega arith)
      | no l ↦ omega arith
    ]

tail_of : (x : ℕ) → x < 64 → In UTF8_tail (0x80 + x)
tail_of x h = (omega arith, omega arith)

fits_3 : (v : ℕ) → is_scalar v ≡ true → 0x800 ≤ v → v < 0x10000 → OneOf UTF8_char ((0xE0 + v / 4096) ∷ (0x80 + v / 64 % 64) ∷ (0x80 + v % 64) ∷ [])
fits_3 v e h k =
    let q : v / 64 / 64 ≡ v / 4096 = shr-shr v 6 6 in
    let y : v / 64 / 64 * 64 + v / 64 % 64 ≡ v / 64 = omega arith in
    let z : v / 64 % 64 < 64 = omega arith in
    let t = tail_of (v % 64) (omega arith) in
    elim (dec_lt v 0x1000) [
      | yes l ↦ inr (inr (inl ((omega arith, omega arith), ((omega arith, omega arith), (t, tt)))))
      | no l ↦ elim (dec_lt v 0xD000) [
        | yes m ↦ inr (inr (inr (inl ((omega arith, omega arith), (tail_of (v / 64 % 64) z, (t, tt))))))
        | no m ↦ elim (dec_lt v 0xD800) [
          | yes n ↦ inr (inr (inr (inr (inl ((omega arith, omega arith), ((omega arith, omega arith), (t, tt)))))))
          | no n ↦ let g = high v e (omega arith) in inr (inr (inr (inr (inr (inl ((omega arith, omega arith), (tail_of (v / 64 % 64) z, (t, tt))))))))
        ]
      ]
    ]

fits_4 : (v : ℕ) → 0x10000 ≤ v → v < 0x110000 → OneOf UTF8_char ((0xF0 + v / 262144) ∷ (0x80 + v / 4096 % 64) ∷ (0x80 + v / 64 % 64) ∷ (0x80 + v % 64) ∷ [])
fits_4 v h k =
    let q : v / 4096 / 64 ≡ v / 262144 = shr-shr v 12 6 in
    let y : v / 4096 / 64 * 64 + v / 4096 % 64 ≡ v / 4096 = omega arith in
    let z : v / 4096 % 64 < 64 = omega arith in
    let t = tail_of (v % 64) (omega arith) in
    let u = tail_of (v / 64 % 64) (omega arith) in
    elim (dec_lt v 0x40000) [
      | yes l ↦ inr (inr (inr (inr (inr (inr (inl ((omega arith, omega arith), ((omega arith, omega arith), (u, (t, tt))))))))))
      | no l ↦ elim (dec_lt v 0x100000) [
        | yes m ↦ inr (inr (inr (inr (inr (inr (inr (inl ((omega arith, omega arith), (tail_of (v / 4096 % 64) z, (u, (t, tt)))))))))))
        | no m ↦ inr (inr (inr (inr (inr (inr (inr (inr (inl ((omega arith, omega arith), ((omega arith, omega arith), (u, (t, tt))))))))))))
      ]
    ]

encode_fits : (v : ℕ) → is_scalar v ≡ true → OneOf UTF8_char (encode v)
encode_fits v e =
    elim (dec_lt v 0x80) [
      | yes h ↦ subst (OneOf UTF8_char) (sym (enc_1 v h)) (inl ((omega arith, omega arith), tt))
      | no h ↦ elim (dec_lt v 0x800) [
        | yes k ↦ subst (OneOf UTF8_char) (sym (enc_2 v (omega arith) k)) (inr (inl ((omega arith, omega arith), (tail_of (v % 64) (omega arith), tt))))
        | no k ↦ elim (dec_lt v 0x10000) [
          | yes m ↦ subst (OneOf UTF8_char) (sym (enc_3 v (omega arith) m)) (fits_3 v e (omega arith) m)
          | no m ↦ subst (OneOf UTF8_char) (sym (enc_4 v (omega arith))) (fits_4 v (omega arith) (ltb-true v 0x110000 (both (not (leb 0xD800 v && ltb v 0xE000)) (ltb v 0x110000) e).1))
        ]
      ]
    ]

text_octets : {s : List ℕ} → Text s → UTF8Octets s
text_octets none = no_octets
text_octets (more v e t) = char_then (encode v) (encode_fits v e) (text_octets t)

pub valid_is_abnf : (s : List ℕ) → utf8 s ≡ true → UTF8Octets s
valid_is_abnf s h = text_octets (valid_is_text s h)
