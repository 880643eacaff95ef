-- A place of a text is between characters exactly where no following byte stands.
use mathlib.Core.Path.{◌≡◌, refl, sym, ap, ◌∙◌}
use mathlib.Core.Bool.{true, false, not, ◌&&◌}
use mathlib.Core.List.{List, [], ◌∷◌}
use Prim.Native.Nat.{ℕ, zero, suc, ◌-◌, ◌<◌, ◌≤◌}
use native.Mathlib.Omega.{arith}
use native.Mathlib.Decide.{dec_lt}
use native.Mathlib.Nat.{le_of_suc-le-suc}
use lib.ListN.{length, get_or, take, length-take}
use lib.Seq.{get_or-take, take_all}
use Rattle.utf8.specs.Rfc3629.{follows, sequence, decode_at, whole_from, utf8, between}
use Rattle.utf8.specs.declared.Decoded.{Decoded}
use Rattle.utf8.specs.declared.Decoded.TheVariants.{Char, Invalid, End}
use Rattle.utf8.proofs.Sequences.{at_start, seq_1, seq_low, seq_high, seq_2, seq_3, seq_4, pick_from, scalar_width}
use Rattle.utf8.proofs.Texts.{char_bytes, char_inside, cons_char, cons_invalid, end_past}

-- a character is decided by its own bytes
local : (a b c d b' c' d' v w : ℕ) → sequence a b c d ≡ Char v w → (1 < w → b' ≡ b) → (2 < w → c' ≡ c) → (3 < w → d' ≡ d) → sequence a b' c' d' ≡ Char v w
local a b c d b' c' d' v w e x y z =
    elim (dec_lt a 0x80) [
      | yes h ↦ seq_1 a b' c' d' h ∙ sym (seq_1 a b c d h) ∙ e
      | no h ↦ elim (dec_lt a 0xC0) [
        | yes k ↦ let n : ◌≡◌ {A = ℕ} 0 1 = cc (seq_low a b c d (omega arith) k) in absurd (omega arith)
        | no k ↦ elim (dec_lt a 0xE0) [
          | yes l ↦ let q = seq_2 a b c d (omega arith) l in
              let n : 2 ≡ w = pick_from (follows b) _ _ _ (sym q ∙ e) (λ t r. scalar_width _ _ _ _ _ r) (λ t r. cc) in
              rw (x (omega arith)) (seq_2 a b c' d' (omega arith) l ∙ sym q ∙ e)
          | no l ↦ elim (dec_lt a 0xF0) [
            | yes m ↦ let q = seq_3 a b c d (omega arith) m in
                let n : 3 ≡ w = pick_from (follows b && follows c) _ _ _ (sym q ∙ e) (λ t r. scalar_width _ _ _ _ _ r) (λ t r. cc) in
                rw (x (omega arith), y (omega arith)) (seq_3 a b c d' (omega arith) m ∙ sym q ∙ e)
            | no m ↦ elim (dec_lt a 0xF8) [
              | yes o ↦ let q = seq_4 a b c d (omega arith) o in
                  let n : 4 ≡ w = pick_from (follows b && follows c && follows d) _ _ _ (sym q ∙ e) (λ t r. scalar_width _ _ _ _ _ r) (λ t r. cc) in
                  rw (x (omega arith), y (omega arith), z (omega arith)) e
              | no o ↦ let n : ◌≡◌ {A = ℕ} 0 1 = cc (seq_high a b c d (omega arith)) in absurd (omega arith)
            ]
          ]
        ]
      ]
    ]

-- what a text begins with
begins : (a : ℕ) (s : List ℕ) (x : Decoded) → decode_at (a ∷ s) 0 ≡ x → utf8 (a ∷ s) ≡ true → (v : ℕ) × (w : ℕ) × (decode_at (a ∷ s) 0 ≡ Char v w)
begins a s (Char v w) e t = (v, w, e)
begins a s Invalid e t = let n : ◌≡◌ {A = ℕ} 0 1 = cc (cons_invalid a s e) in absurd (omega arith)
begins a s End e t = absurd (omega (arith, end_past (a ∷ s) 0 e))

abbrev Follow : List ℕ → ℕ → Type 0
Follow s k = (j : ℕ) → j < k → follows (get_or s j 0) ≡ true

tail_follows : (a : ℕ) (s : List ℕ) (v w : ℕ) → decode_at (a ∷ s) 0 ≡ Char v w → Follow s (w - 1)
tail_follows a s v w e zero h = (char_bytes (a ∷ s) 0 v w (omega arith) e).second (omega arith)
tail_follows a s v w e (suc zero) h = (char_bytes (a ∷ s) 0 v w (omega arith) e).third (omega arith)
tail_follows a s v w e (suc (suc zero)) h = (char_bytes (a ∷ s) 0 v w (omega arith) e).fourth (omega arith)
tail_follows a s v w e (suc (suc (suc j))) h = absurd (omega (arith, (char_bytes (a ∷ s) 0 v w (omega arith) e).most))

-- a character that the cut leaves whole, and one that it goes through
cut_after : (a : ℕ) (s : List ℕ) (p v w : ℕ) → w ≤ suc p → decode_at (a ∷ s) 0 ≡ Char v w → decode_at (a ∷ take p s) 0 ≡ Char v w
cut_after a s p v w h e =
    at_start (a ∷ take p s) 0 (omega arith)
    ∙ local a (get_or s 0 0) (get_or s 1 0) (get_or s 2 0) (get_or (take p s) 0 0) (get_or (take p s) 1 0) (get_or (take p s) 2 0) v w (sym (at_start (a ∷ s) 0 (omega arith)) ∙ e)
    (λ k. get_or-take p s 0 0 (omega arith)) (λ k. get_or-take p s 1 0 (omega arith)) (λ k. get_or-take p s 2 0 (omega arith))

cut_through : (a : ℕ) (s : List ℕ) (p v w : ℕ) → suc p < w → decode_at (a ∷ s) 0 ≡ Char v w → (x : Decoded) → decode_at (a ∷ take p s) 0 ≡ x → utf8 (a ∷ take p s) ≡ false
cut_through a s p v w h e (Char v' w') q =
    let i = char_inside (a ∷ take p s) 0 v' w' (omega arith) q in
    let l = (char_bytes (a ∷ s) 0 v w (omega arith) e).lead in
    let m = (char_bytes (a ∷ take p s) 0 v' w' (omega arith) q).lead in
    let n : w' ≡ w = m ∙ sym l in
    absurd (omega (arith, i.1, length-take p s))
cut_through a s p v w h e Invalid q = cons_invalid a (take p s) q
cut_through a s p v w h e End q = absurd (omega (arith, end_past (a ∷ take p s) 0 q))

whole_zero : (s : List ℕ) → whole_from s 0 ≡ utf8 s
unfolding utf8
whole_zero s = refl

whole_start : whole_from [] 0 ≡ true
unfolding whole_from
whole_start = refl

whole_skip : (a : ℕ) (s : List ℕ) (k : ℕ) → whole_from (a ∷ s) (suc k) ≡ whole_from s k
unfolding whole_from
whole_skip a s k = refl

whole_short : (k : ℕ) → whole_from [] (suc k) ≡ false
unfolding whole_from
whole_short k = refl

cut : (s : List ℕ) (k p : ℕ) → whole_from s k ≡ true → Follow s k → p < length s → whole_from (take p s) k ≡ not (follows (get_or s p 0))
cut [] k p t f h = absurd (omega arith)
cut (a ∷ s) (suc k) zero t f h = whole_short k ∙ sym (ap not (f 0 (omega arith)))
cut (a ∷ s) (suc k) (suc p) t f h = whole_skip a (take p s) k ∙ cut s k p (sym (whole_skip a s k) ∙ t) (λ j l. f (suc j) (omega arith)) (le_of_suc-le-suc h)
cut (a ∷ s) zero zero t f h =
    let b = begins a s (decode_at (a ∷ s) 0) refl (sym (whole_zero (a ∷ s)) ∙ t) in
    whole_start ∙ sym (ap not (char_bytes (a ∷ s) 0 b.0 b.1 (omega arith) b.2).first)
cut (a ∷ s) zero (suc p) t f h =
    let u : utf8 (a ∷ s) ≡ true = sym (whole_zero (a ∷ s)) ∙ t in
    let b = begins a s (decode_at (a ∷ s) 0) refl u in
    let w = b.1 in
    let g = tail_follows a s b.0 b.1 b.2 in
    let t' : whole_from s (b.1 - 1) ≡ true = sym (cons_char a s b.0 b.1 b.2) ∙ u in
    whole_zero (a ∷ take p s) ∙ elim (dec_lt (suc p) b.1) [
      | yes l ↦ cut_through a s p b.0 b.1 l b.2 (decode_at (a ∷ take p s) 0) refl ∙ sym (ap not (g p (omega arith)))
      | no l ↦ cons_char a (take p s) b.0 b.1 (cut_after a s p b.0 b.1 (omega arith) b.2) ∙ cut s (b.1 - 1) p t' g (le_of_suc-le-suc h)
    ]

-- a text begins with no following byte
pub starts : (s : List ℕ) → utf8 s ≡ true → follows (get_or s 0 0) ≡ false
starts [] t = refl
starts (a ∷ s) t =
    let b = begins a s (decode_at (a ∷ s) 0) refl t in
    (char_bytes (a ∷ s) 0 b.0 b.1 (omega arith) b.2).first

pub between_at : (s : List ℕ) (p : ℕ) → utf8 s ≡ true → p < length s → between s p ≡ not (follows (get_or s p 0))
unfolding between
between_at s p t h = sym (whole_zero (take p s)) ∙ cut s 0 p (whole_zero s ∙ t) (λ j l. absurd (omega arith)) h

pub between_past : (s : List ℕ) (p : ℕ) → utf8 s ≡ true → length s ≤ p → between s p ≡ true
unfolding between
between_past s p t h = ap utf8 (take_all p s h) ∙ t

pub between_zero : (s : List ℕ) → between s 0 ≡ true
unfolding between
between_zero s = sym (whole_zero []) ∙ whole_start
