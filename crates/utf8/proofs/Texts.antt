-- A text as a list of bytes: how one character is passed, and where a character's bytes lie.
use mathlib.Core.Path.{◌≡◌, refl, sym, ◌∙◌}
use mathlib.Core.Bool.{true, false}
use mathlib.Core.List.{List, [], ◌∷◌}
use Prim.Native.Nat.{ℕ, zero, suc, ◌+◌, ◌-◌, ◌<◌, ◌≤◌}
use native.Mathlib.Omega.{arith}
use native.Mathlib.Decide.{dec_lt}
use native.Mathlib.Nat.{add-zero, le_of_suc-le-suc}
use lib.ListN.{length, get_or, drop, length-drop, get_or-eq_default}
use lib.Seq.{drop-cons, drop-drop, get_or-drop}
use Rattle.utf8.specs.Rfc3629.{follows, decode_at, whole_from, utf8}
use Rattle.utf8.proofs.Sequences.{follows_from, at_end, at_start, Bytes, bytes_of, seq_no_end}
use Rattle.utf8.specs.declared.Decoded.TheVariants.{Char, Invalid, End}

-- a byte that follows is no default
inside : (s : List ℕ) (i : ℕ) → follows (get_or s i 0) ≡ true → i < length s
inside s i e = elim (dec_lt i (length s)) [ yes h ↦ h | no h ↦ let q : get_or s i 0 ≡ 0 = get_or-eq_default s 0 (omega arith) in let f = follows_from (get_or s i 0) e in absurd (omega arith) ]

-- a character lies within the text
reaches : (s : List ℕ) (i w : ℕ) → i < length s → Bytes (get_or s i 0) (get_or s (i + 1) 0) (get_or s (i + 2) 0) (get_or s (i + 3) 0) w → (k : ℕ) → k ≡ w → i + w ≤ length s
reaches s i w h b zero e = omega (arith, b.some)
reaches s i w h b (suc zero) e = omega arith
reaches s i w h b (suc (suc zero)) e = omega (arith, inside s (i + 1) (b.second (omega arith)))
reaches s i w h b (suc (suc (suc zero))) e = omega (arith, inside s (i + 2) (b.third (omega arith)))
reaches s i w h b (suc (suc (suc (suc k)))) e = omega (arith, inside s (i + 3) (b.fourth (omega arith)), b.most)

pub char_bytes : (s : List ℕ) (i v w : ℕ) → i < length s → decode_at s i ≡ Char v w → Bytes (get_or s i 0) (get_or s (i + 1) 0) (get_or s (i + 2) 0) (get_or s (i + 3) 0) w
char_bytes s i v w h e = bytes_of _ _ _ _ v w (sym (at_start s i h) ∙ e)

pub char_inside : (s : List ℕ) (i v w : ℕ) → i < length s → decode_at s i ≡ Char v w → (0 < w) × (i + w ≤ length s)
char_inside s i v w h e = let b = char_bytes s i v w h e in (b.some, reaches s i w h b w refl)

pub whole_drop : (s : List ℕ) (k : ℕ) → k ≤ length s → whole_from s k ≡ utf8 (drop k s)
unfolding whole_from utf8
whole_drop [] zero h = refl
whole_drop [] (suc k) h = absurd (omega arith)
whole_drop (a ∷ s) zero h = refl
whole_drop (a ∷ s) (suc k) h = whole_drop s k (le_of_suc-le-suc h)

pub decode_drop : (s : List ℕ) (i : ℕ) → i < length s → decode_at (drop i s) 0 ≡ decode_at s i
decode_drop s i h =
    let k : 0 < length (drop i s) = simp length-drop (omega arith) in
    at_start (drop i s) 0 k ∙ simp (get_or-drop, add-zero) (sym (at_start s i h))

pub cons_char : (a : ℕ) (s : List ℕ) (v w : ℕ) → decode_at (a ∷ s) 0 ≡ Char v w → utf8 (a ∷ s) ≡ whole_from s (w - 1)
unfolding utf8 whole_from
cons_char a s v w e = let q = sym (at_start (a ∷ s) 0 (omega arith)) ∙ e in rw (q, whole_from)

pub cons_invalid : (a : ℕ) (s : List ℕ) → decode_at (a ∷ s) 0 ≡ Invalid → utf8 (a ∷ s) ≡ false
unfolding utf8 whole_from
cons_invalid a s e = let q = sym (at_start (a ∷ s) 0 (omega arith)) ∙ e in rw (q, whole_from)

-- one character is passed
pub passes : (s : List ℕ) (i v w : ℕ) → i < length s → decode_at s i ≡ Char v w → utf8 (drop i s) ≡ utf8 (drop (i + w) s)
passes s i v w h e =
    let b = char_inside s i v w h e in
    let d = drop-cons s i 0 h in
    let k : decode_at (get_or s i 0 ∷ drop (suc i) s) 0 ≡ Char v w = rw d at (decode_drop s i h ∙ e) in
    let n : i + w ≡ suc i + (w - 1) = omega (arith, b.0) in
    rw (d, n, ← drop-drop) (cons_char (get_or s i 0) (drop (suc i) s) v w k ∙ whole_drop (drop (suc i) s) (w - 1) (simp length-drop (omega (arith, b.1))))

pub stops : (s : List ℕ) (i : ℕ) → i < length s → decode_at s i ≡ Invalid → utf8 (drop i s) ≡ false
stops s i h e =
    let d = drop-cons s i 0 h in
    rw d (cons_invalid (get_or s i 0) (drop (suc i) s) (rw d at (decode_drop s i h ∙ e)))

-- where an answer stands
pub char_below : (s : List ℕ) (i v w : ℕ) → decode_at s i ≡ Char v w → i < length s
char_below s i v w e = elim (dec_lt i (length s)) [ yes h ↦ h | no h ↦ let z : ◌≡◌ {A = ℕ} 0 1 = cc (at_end s i (omega arith)) in absurd (omega arith) ]

pub invalid_below : (s : List ℕ) (i : ℕ) → decode_at s i ≡ Invalid → i < length s
invalid_below s i e = elim (dec_lt i (length s)) [ yes h ↦ h | no h ↦ let z : ◌≡◌ {A = ℕ} 0 1 = cc (at_end s i (omega arith)) in absurd (omega arith) ]

pub end_past : (s : List ℕ) (i : ℕ) → decode_at s i ≡ End → length s ≤ i
end_past s i e = elim (dec_lt i (length s)) [ yes h ↦ absurd (seq_no_end _ _ _ _ (sym (at_start s i h) ∙ e)) | no h ↦ omega arith ]

pub utf8_nil : utf8 [] ≡ true
unfolding utf8 whole_from
utf8_nil = refl

-- the turn of a loop over a text's characters
pub turn : (s : List ℕ) (i v w : ℕ) → decode_at s i ≡ Char v w → (i < i + w) × (i + w ≤ length s) × (utf8 (drop i s) ≡ utf8 (drop (i + w) s))
turn s i v w e = let h = char_below s i v w e in let b = char_inside s i v w h e in (omega (arith, b.0), b.1, passes s i v w h e)
