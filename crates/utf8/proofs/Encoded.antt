-- `utf8` holds exactly of the encoded scalar values one after the other: `valid_is_text`, `text_is_valid` (RFC 3629, section 3).
use mathlib.Core.Path.{◌≡◌, refl, sym, ap, ◌∙◌, subst}
use mathlib.Core.Bool.{true, not, ◌&&◌}
use mathlib.Core.List.{List, [], ◌∷◌, ◌++◌}
use Prim.Native.Nat.{ℕ, zero, suc, ◌+◌, ◌-◌, ◌*◌, ◌/◌, ◌%◌, ◌<◌, ◌≤◌}
use native.Mathlib.Omega.{arith}
use native.Mathlib.Decide.{dec_lt}
use native.Mathlib.Nat.{le_refl, zero-add}
use lib.Dec.{ltb, leb}
use lib.Pow.{shr-shr}
use lib.Arith.{digits_div, digits_mod}
use lib.ListN.{length, get_or, take, drop, take-append-drop, length-drop}
use lib.Seq.{drop-append_seam}
use borrow.Author.Tests.{lt-ltb, le-ltb, le-leb, lt-leb, leb-true, ltb-true}
use Rattle.utf8.specs.Rfc3629.{follows, scalar, sequence, value2, value3, value4, decode_at, utf8}
use Rattle.utf8.proofs.Encode.{is_scalar, encode, Text, none, more}
use Rattle.utf8.specs.declared.Decoded.{Decoded}
use Rattle.utf8.specs.declared.Decoded.TheVariants.{Char, Invalid, End}
use Rattle.utf8.proofs.Sequences.{both, follows_from, at_start, seq_1, seq_2, seq_3, seq_4, pick_from}
use Rattle.utf8.proofs.Texts.{char_bytes, char_inside, char_below, decode_drop, passes, stops, invalid_below, utf8_nil, end_past}

-- ---- the bytes of a scalar value are decoded to it

pub follow : (b : ℕ) → b < 64 → follows (0x80 + b) ≡ true
follow b h = simp (le-leb 0x80 (0x80 + b) (omega arith), lt-ltb (0x80 + b) 0xC0 (omega arith))

pub accept : (low v n : ℕ) → low ≤ v → is_scalar v ≡ true → scalar low v n ≡ Char v n
unfolding scalar
accept low v n h e = let k = both (not (leb 0xD800 v && ltb v 0xE000)) (ltb v 0x110000) e in rw (le-leb low v h, k.0, k.1)

pub enc_1 : (v : ℕ) → v < 0x80 → encode v ≡ v ∷ []
unfolding encode
enc_1 v h = rw (lt-ltb v 0x80 h)

pub enc_2 : (v : ℕ) → 0x80 ≤ v → v < 0x800 → encode v ≡ (0xC0 + v / 64) ∷ (0x80 + v % 64) ∷ []
unfolding encode
enc_2 v h k = rw (le-ltb v 0x80 h, lt-ltb v 0x800 k)

pub enc_3 : (v : ℕ) → 0x800 ≤ v → v < 0x10000 → encode v ≡ (0xE0 + v / 4096) ∷ (0x80 + v / 64 % 64) ∷ (0x80 + v % 64) ∷ []
unfolding encode
enc_3 v h k = rw (le-ltb v 0x80 (omega arith), le-ltb v 0x800 h, lt-ltb v 0x10000 k)

pub enc_4 : (v : ℕ) → 0x10000 ≤ v → encode v ≡ (0xF0 + v / 262144) ∷ (0x80 + v / 4096 % 64) ∷ (0x80 + v / 64 % 64) ∷ (0x80 + v % 64) ∷ []
unfolding encode
enc_4 v h = rw (le-ltb v 0x80 (omega arith), le-ltb v 0x800 (omega arith), le-ltb v 0x10000 h)

seq_of_2 : (v c d : ℕ) → is_scalar v ≡ true → 0x80 ≤ v → v < 0x800 → sequence (0xC0 + v / 64) (0x80 + v % 64) c d ≡ Char v 2
seq_of_2 v c d e h k =
    let m : value2 (0xC0 + v / 64) (0x80 + v % 64) ≡ v = omega arith in
    seq_2 (0xC0 + v / 64) (0x80 + v % 64) c d (omega arith) (omega arith) ∙ rw (follow (v % 64) (omega arith), m) (accept 0x80 v 2 h e)

seq_of_3 : (v d : ℕ) → is_scalar v ≡ true → 0x800 ≤ v → v < 0x10000 → sequence (0xE0 + v / 4096) (0x80 + v / 64 % 64) (0x80 + v % 64) d ≡ Char v 3
seq_of_3 v d e h k =
    let q : v / 64 / 64 ≡ v / 4096 = shr-shr v 6 6 in
    let x : v / 64 * 64 + v % 64 ≡ v = omega arith in
    let y : v / 64 / 64 * 64 + v / 64 % 64 ≡ v / 64 = omega arith in
    let m : value3 (0xE0 + v / 4096) (0x80 + v / 64 % 64) (0x80 + v % 64) ≡ v = omega arith in
    seq_3 (0xE0 + v / 4096) (0x80 + v / 64 % 64) (0x80 + v % 64) d (omega arith) (omega arith) ∙ rw (follow (v / 64 % 64) (omega arith), follow (v % 64) (omega arith), m) (accept 0x800 v 3 h e)

seq_of_4 : (v : ℕ) → is_scalar v ≡ true → 0x10000 ≤ v → v < 0x110000 → sequence (0xF0 + v / 262144) (0x80 + v / 4096 % 64) (0x80 + v / 64 % 64) (0x80 + v % 64) ≡ Char v 4
seq_of_4 v e h k =
    let q : v / 64 / 64 ≡ v / 4096 = shr-shr v 6 6 in
    let p : v / 4096 / 64 ≡ v / 262144 = shr-shr v 12 6 in
    let x : v / 64 * 64 + v % 64 ≡ v = omega arith in
    let y : v / 64 / 64 * 64 + v / 64 % 64 ≡ v / 64 = omega arith in
    let z : v / 4096 / 64 * 64 + v / 4096 % 64 ≡ v / 4096 = omega arith in
    let m : value4 (0xF0 + v / 262144) (0x80 + v / 4096 % 64) (0x80 + v / 64 % 64) (0x80 + v % 64) ≡ v = omega arith in
    seq_4 (0xF0 + v / 262144) (0x80 + v / 4096 % 64) (0x80 + v / 64 % 64) (0x80 + v % 64) (omega arith) (omega arith)
    ∙ rw (follow (v / 4096 % 64) (omega arith), follow (v / 64 % 64) (omega arith), follow (v % 64) (omega arith), m) (accept 0x10000 v 4 h e)

-- the bytes of a scalar value, in front of any list, are decoded to it
pub decode_encode : (v : ℕ) (s : List ℕ) → is_scalar v ≡ true → decode_at (encode v ++ s) 0 ≡ Char v (length (encode v))
decode_encode v s e =
    let t = ltb-true v 0x110000 (both (not (leb 0xD800 v && ltb v 0xE000)) (ltb v 0x110000) e).1 in
    elim (dec_lt v 0x80) [
      | yes h ↦ rw (enc_1 v h) (at_start (v ∷ s) 0 (omega arith) ∙ seq_1 v _ _ _ h)
      | no h ↦ elim (dec_lt v 0x800) [
        | yes k ↦ rw (enc_2 v (omega arith) k) (at_start ((0xC0 + v / 64) ∷ (0x80 + v % 64) ∷ s) 0 (omega arith) ∙ seq_of_2 v _ _ e (omega arith) k)
        | no k ↦ elim (dec_lt v 0x10000) [
          | yes m ↦ rw (enc_3 v (omega arith) m) (at_start ((0xE0 + v / 4096) ∷ (0x80 + v / 64 % 64) ∷ (0x80 + v % 64) ∷ s) 0 (omega arith) ∙ seq_of_3 v _ e (omega arith) m)
          | no m ↦ rw (enc_4 v (omega arith)) (at_start ((0xF0 + v / 262144) ∷ (0x80 + v / 4096 % 64) ∷ (0x80 + v / 64 % 64) ∷ (0x80 + v % 64) ∷ s) 0 (omega arith) ∙ seq_of_4 v e (omega arith) t)
        ]
      ]
    ]

-- a scalar value in front of a list passes on to the list
pub utf8_encode : (v : ℕ) (s : List ℕ) → is_scalar v ≡ true → utf8 (encode v ++ s) ≡ utf8 s
utf8_encode v s e =
    let d = decode_encode v s e in
    passes (encode v ++ s) 0 v _ (char_below (encode v ++ s) 0 v _ d) d ∙ ap utf8 (rw zero-add (drop-append_seam (encode v) s))

pub text_is_valid : {s : List ℕ} → Text s → utf8 s ≡ true
text_is_valid none = utf8_nil
text_is_valid (more v {s} e t) = utf8_encode v s e ∙ text_is_valid t

-- ---- what is decoded is a scalar value, and its bytes are those of the value

record Good (u v low n w : ℕ) : Type 0 where
  same : u ≡ v
  wide : n ≡ w
  least : low ≤ u
  good : is_scalar u ≡ true

scalar_inv : (low u n v w : ℕ) → scalar low u n ≡ Char v w → Good u v low n w
unfolding scalar
scalar_inv low u n v w e =
    pick_from (leb low u && not (leb 0xD800 u && ltb u 0xE000) && ltb u 0x110000) (Char u n) Invalid (Char v w) e
    (λ t q. let k = both (leb low u && not (leb 0xD800 u && ltb u 0xE000)) (ltb u 0x110000) t in
    let j = both (leb low u) (not (leb 0xD800 u && ltb u 0xE000)) k.0 in
    record { same = cc; wide = cc; least = leb-true low u j.0; good = rw (j.1, k.1) })
    (λ t q. let z : ◌≡◌ {A = ℕ} 0 1 = cc in absurd (omega arith))

Spelt : (a b c d v w : ℕ) → Type 0
Spelt a b c d v w = (is_scalar v ≡ true) × (encode v ≡ take w (a ∷ b ∷ c ∷ d ∷ []))

spelt_1 : (a b c d : ℕ) → a < 0x80 → Spelt a b c d a 1
unfolding Spelt
spelt_1 a b c d h = (simp (lt-leb 0xD800 a (omega arith), lt-ltb a 0x110000 (omega arith)), enc_1 a h)

spelt_2 : (a b c d : ℕ) → 0xC0 ≤ a → a < 0xE0 → follows b ≡ true → 0x80 ≤ value2 a b → is_scalar (value2 a b) ≡ true → Spelt a b c d (value2 a b) 2
unfolding Spelt
spelt_2 a b c d h k fb l g =
    let hb = follows_from b fb in
    let x : value2 a b / 64 ≡ a - 0xC0 = digits_div (a - 0xC0) (omega arith) in
    let y : value2 a b % 64 ≡ b - 0x80 = digits_mod (a - 0xC0) (omega arith) in
    let p : 0xC0 + (a - 0xC0) ≡ a = omega arith in
    let q : 0x80 + (b - 0x80) ≡ b = omega arith in
    (g, enc_2 (value2 a b) l (omega arith) ∙ rw (x, y, p, q))

spelt_3 : (a b c d : ℕ) → 0xE0 ≤ a → a < 0xF0 → follows b ≡ true → follows c ≡ true → 0x800 ≤ value3 a b c → is_scalar (value3 a b c) ≡ true → Spelt a b c d (value3 a b c) 3
unfolding Spelt
spelt_3 a b c d h k fb fc l g =
    let hb = follows_from b fb in
    let hc = follows_from c fc in
    let m : value3 a b c ≡ ((a - 0xE0) * 64 + (b - 0x80)) * 64 + (c - 0x80) = omega arith in
    let x : value3 a b c / 64 ≡ (a - 0xE0) * 64 + (b - 0x80) = rw m (digits_div ((a - 0xE0) * 64 + (b - 0x80)) (omega arith)) in
    let y : value3 a b c % 64 ≡ c - 0x80 = rw m (digits_mod ((a - 0xE0) * 64 + (b - 0x80)) (omega arith)) in
    let z : value3 a b c / 64 % 64 ≡ b - 0x80 = rw x (digits_mod (a - 0xE0) (omega arith)) in
    let o : value3 a b c / 4096 ≡ a - 0xE0 = sym (shr-shr (value3 a b c) 6 6) ∙ rw x (digits_div (a - 0xE0) (omega arith)) in
    let p : 0xE0 + (a - 0xE0) ≡ a = omega arith in
    let q : 0x80 + (b - 0x80) ≡ b = omega arith in
    let r : 0x80 + (c - 0x80) ≡ c = omega arith in
    (g, enc_3 (value3 a b c) l (omega arith) ∙ rw (o, z, y, p, q, r))

spelt_4 : (a b c d : ℕ) → 0xF0 ≤ a → follows b ≡ true → follows c ≡ true → follows d ≡ true → 0x10000 ≤ value4 a b c d → is_scalar (value4 a b c d) ≡ true → Spelt a b c d (value4 a b c d) 4
unfolding Spelt
spelt_4 a b c d h fb fc fd l g =
    let hb = follows_from b fb in
    let hc = follows_from c fc in
    let hd = follows_from d fd in
    let u : ℕ = value4 a b c d in
    let m : value4 a b c d ≡ (((a - 0xF0) * 64 + (b - 0x80)) * 64 + (c - 0x80)) * 64 + (d - 0x80) = omega arith in
    let x : value4 a b c d / 64 ≡ ((a - 0xF0) * 64 + (b - 0x80)) * 64 + (c - 0x80) = rw m (digits_div (((a - 0xF0) * 64 + (b - 0x80)) * 64 + (c - 0x80)) (omega arith)) in
    let y : value4 a b c d % 64 ≡ d - 0x80 = rw m (digits_mod (((a - 0xF0) * 64 + (b - 0x80)) * 64 + (c - 0x80)) (omega arith)) in
    let z : value4 a b c d / 64 % 64 ≡ c - 0x80 = rw x (digits_mod ((a - 0xF0) * 64 + (b - 0x80)) (omega arith)) in
    let w : value4 a b c d / 4096 ≡ (a - 0xF0) * 64 + (b - 0x80) = sym (shr-shr (value4 a b c d) 6 6) ∙ rw x (digits_div ((a - 0xF0) * 64 + (b - 0x80)) (omega arith)) in
    let n : value4 a b c d / 4096 % 64 ≡ b - 0x80 = rw w (digits_mod (a - 0xF0) (omega arith)) in
    let o : value4 a b c d / 262144 ≡ a - 0xF0 = sym (shr-shr (value4 a b c d) 12 6) ∙ rw w (digits_div (a - 0xF0) (omega arith)) in
    let p : 0xF0 + (a - 0xF0) ≡ a = omega arith in
    let q : 0x80 + (b - 0x80) ≡ b = omega arith in
    let r : 0x80 + (c - 0x80) ≡ c = omega arith in
    let s : 0x80 + (d - 0x80) ≡ d = omega arith in
    (g, enc_4 (value4 a b c d) l ∙ rw (o, n, z, y, p, q, r, s))

moved : (a b c d u v n w : ℕ) → u ≡ v → n ≡ w → Spelt a b c d u n → Spelt a b c d v w
moved a b c d u v n w e f s = rw (sym e, sym f) s

spelt : (a b c d v w : ℕ) → sequence a b c d ≡ Char v w → Spelt a b c d v w
unfolding sequence
spelt a b c d v w e =
    pick_from (ltb a 0x80) _ _ _ e
    (λ t q. let x : a ≡ v = cc in let y : 1 ≡ w = cc in moved a b c d a v 1 w x y (spelt_1 a b c d (ltb-true a 0x80 t)))
    (λ _ q. pick_from (leb 0xC0 a && ltb a 0xE0 && follows b) _ _ _ q
    (λ t r. let g = scalar_inv 0x80 (value2 a b) 2 v w r in
    let k = both (leb 0xC0 a && ltb a 0xE0) (follows b) t in
    let l = both (leb 0xC0 a) (ltb a 0xE0) k.0 in
    moved a b c d _ v 2 w g.same g.wide (spelt_2 a b c d (leb-true 0xC0 a l.0) (ltb-true a 0xE0 l.1) k.1 g.least g.good))
    (λ _ r. pick_from (leb 0xE0 a && ltb a 0xF0 && follows b && follows c) _ _ _ r
    (λ t z. let g = scalar_inv 0x800 (value3 a b c) 3 v w z in
    let j = both (leb 0xE0 a && ltb a 0xF0 && follows b) (follows c) t in
    let k = both (leb 0xE0 a && ltb a 0xF0) (follows b) j.0 in
    let l = both (leb 0xE0 a) (ltb a 0xF0) k.0 in
    moved a b c d _ v 3 w g.same g.wide (spelt_3 a b c d (leb-true 0xE0 a l.0) (ltb-true a 0xF0 l.1) k.1 j.1 g.least g.good))
    (λ _ z. pick_from (leb 0xF0 a && ltb a 0xF8 && follows b && follows c && follows d) _ _ _ z
    (λ t y. let g = scalar_inv 0x10000 (value4 a b c d) 4 v w y in
    let i = both (leb 0xF0 a && ltb a 0xF8 && follows b && follows c) (follows d) t in
    let j = both (leb 0xF0 a && ltb a 0xF8 && follows b) (follows c) i.0 in
    let k = both (leb 0xF0 a && ltb a 0xF8) (follows b) j.0 in
    let l = both (leb 0xF0 a) (ltb a 0xF8) k.0 in
    moved a b c d _ v 4 w g.same g.wide (spelt_4 a b c d (leb-true 0xF0 a l.0) k.1 j.1 i.1 g.least g.good))
    (λ _ y. let n : ◌≡◌ {A = ℕ} 0 1 = cc in absurd (omega arith)))))

-- the first w of at most four bytes
first_four : (s : List ℕ) (w : ℕ) → w ≤ 4 → w ≤ length s → take w (get_or s 0 0 ∷ get_or s 1 0 ∷ get_or s 2 0 ∷ get_or s 3 0 ∷ []) ≡ take w s
first_four s zero h k = refl
first_four [] (suc w) h k = absurd (omega arith)
first_four (a ∷ s) (suc zero) h k = refl
first_four (a ∷ []) (suc (suc w)) h k = absurd (omega arith)
first_four (a ∷ b ∷ s) (suc (suc zero)) h k = refl
first_four (a ∷ b ∷ []) (suc (suc (suc w))) h k = absurd (omega arith)
first_four (a ∷ b ∷ c ∷ s) (suc (suc (suc zero))) h k = refl
first_four (a ∷ b ∷ c ∷ []) (suc (suc (suc (suc w)))) h k = absurd (omega arith)
first_four (a ∷ b ∷ c ∷ d ∷ s) (suc (suc (suc (suc zero)))) h k = refl
first_four (a ∷ b ∷ c ∷ d ∷ s) (suc (suc (suc (suc (suc w))))) h k = absurd (omega arith)

spelt_first : (s : List ℕ) (v w : ℕ) → decode_at s 0 ≡ Char v w → (is_scalar v ≡ true) × (encode v ≡ take w s)
unfolding Spelt
spelt_first s v w e =
    let h = char_below s 0 v w e in
    let b = char_bytes s 0 v w h e in
    let i = char_inside s 0 v w h e in
    let p = spelt _ _ _ _ v w (sym (at_start s 0 h) ∙ e) in
    (p.0, p.1 ∙ first_four s w b.most (omega (arith, i.1)))

-- what is decoded at a place is a scalar value, and the bytes there are its bytes
pub decoded_bytes : (s : List ℕ) (i v w : ℕ) → decode_at s i ≡ Char v w → (is_scalar v ≡ true) × (encode v ≡ take w (drop i s))
decoded_bytes s i v w e = spelt_first (drop i s) v w (decode_drop s i (char_below s i v w e) ∙ e)

begin : (s : List ℕ) (v w : ℕ) → decode_at s 0 ≡ Char v w → (is_scalar v ≡ true) × (s ≡ encode v ++ drop w s) × (length (drop w s) < length s)
begin s v w e =
    let p = spelt_first s v w e in
    let i = char_inside s 0 v w (char_below s 0 v w e) e in
    (p.0, rw p.1 (sym (take-append-drop w s)), simp length-drop (omega (arith, i.0, i.1)))

end_nil : (s : List ℕ) → length s ≤ 0 → s ≡ []
end_nil [] h = refl
end_nil (a ∷ s) h = absurd (omega arith)

-- the step, from the texts that are shorter
step : (n : ℕ) → ((s : List ℕ) → length s ≤ n → utf8 s ≡ true → Text s) → (s : List ℕ) (x : Decoded) → length s ≤ suc n → decode_at s 0 ≡ x → utf8 s ≡ true → Text s
step n ih s (Char v w) h e t =
    let b = begin s v w e in
    let p = passes s 0 v w (char_below s 0 v w e) e in
    let z : 0 + w ≡ w = omega arith in
    let u : utf8 (drop w s) ≡ true = rw z at (sym p ∙ t) in
    subst Text (sym b.1) (more v b.0 (ih (drop w s) (omega (arith, b.2)) u))
step n ih s Invalid h e t = let z : ◌≡◌ {A = ℕ} 0 1 = cc (stops s 0 (invalid_below s 0 e) e) in absurd (omega arith)
step n ih s End h e t = subst Text (sym (end_nil s (end_past s 0 e))) none

by_length : (n : ℕ) (s : List ℕ) → length s ≤ n → utf8 s ≡ true → Text s
by_length zero s h t = subst Text (sym (end_nil s h)) none
by_length (suc n) s h t = step n (by_length n) s (decode_at s 0) h refl t

pub valid_is_text : (s : List ℕ) → utf8 s ≡ true → Text s
valid_is_text s t = by_length (length s) s (le_refl (length s)) t
