-- Blocks of ASCII are passed at once.
use mathlib.Core.Path.{◌≡◌, refl, sym, ◌∙◌}
use mathlib.Core.List.{List}
use Prim.Native.Nat.{ℕ, zero, suc, ◌+◌, ◌-◌, ◌<◌, ◌≤◌}
use native.Mathlib.Omega.{arith}
use native.Mathlib.Decide.{dec_lt}
use native.Mathlib.Nat.{add-zero}
use lib.Bits.{bit_or}
use lib.ListN.{length, get_or, drop}
use mathlib.Core.Bool.{false}
use Rattle.utf8.specs.Rfc3629.{decode_at, utf8, width_of}
use Rattle.utf8.specs.Ascii.{Ascii}
use Rattle.utf8.specs.declared.Decoded.{Decoded}
use Rattle.utf8.specs.declared.Decoded.TheVariants.{Char, Invalid, End}
use Rattle.utf8.proofs.Sequences.{at_start, seq_1}
use Rattle.utf8.proofs.Texts.{turn, stops, end_past}
use Rattle.utf8.proofs.Between.{or_left, or_right}

pub or_more : (s : List ℕ) (i j x : ℕ) → ((k : ℕ) → k < j → get_or s (i + k) 0 ≤ x) → (k : ℕ) → k < j + 1 → get_or s (i + k) 0 ≤ bit_or x (get_or s (i + j) 0)
or_more s i j x h k l =
    elim (dec_lt k j) [ yes m ↦ omega (arith, h k m, or_left x (get_or s (i + j) 0)) | no m ↦ let e : k ≡ j = omega arith in rw e (or_right x (get_or s (i + j) 0)) ]

pub block : (s : List ℕ) (i r x : ℕ) → Ascii s i r → r + 32 ≤ length s → ((j : ℕ) → j < 32 → get_or s (r + j) 0 ≤ x) → x < 0x80 → Ascii s i (r + 32)
block s i r x a h b l =
    record {
      after = omega (arith, a.after);
      inside = h;
      each = λ k m n. elim (dec_lt k r) [
        | yes o ↦ a.each k m o
        | no o ↦ let e : k ≡ r + (k - r) = omega arith in
            rw e (omega (arith, b (k - r) (omega arith)))
      ];
    }

ascii_by : (s : List ℕ) (i n : ℕ) → i + n ≤ length s → ((k : ℕ) → i ≤ k → k < i + n → get_or s k 0 < 0x80) → utf8 (drop i s) ≡ utf8 (drop (i + n) s)
ascii_by s i zero h a = rw add-zero
ascii_by s i (suc n) h a =
    let e = at_start s (i + n) (omega arith) ∙ seq_1 _ _ _ _ (a (i + n) (omega arith) (omega arith)) in
    let q : i + suc n ≡ i + n + 1 = omega arith in
    rw q (ascii_by s i n (omega arith) (λ k l m. a k l (omega arith)) ∙ (turn s (i + n) _ 1 e).2)

pub ascii_pass : (s : List ℕ) (i r : ℕ) → Ascii s i r → utf8 (drop i s) ≡ utf8 (drop r s)
ascii_pass s i r a =
    let e : r ≡ i + (r - i) = omega (arith, a.after) in
    rw e (ascii_by s i (r - i) (omega (arith, a.after, a.inside)) (λ k l m. a.each k l (omega (arith, a.after))))

-- a turn by the width alone
abbrev Turn : List ℕ → ℕ → ℕ → Type 0
Turn s i w = (i < i + w) × (i + w ≤ length s) × (utf8 (drop i s) ≡ utf8 (drop (i + w) s))

width_char : (s : List ℕ) (i w : ℕ) (x : Decoded) → decode_at s i ≡ x → w ≡ width_of x → (w ≡ 0 → ⊥) → Turn s i w
width_char s i w (Char v u) e q n = rw q (turn s i v u e)
width_char s i w Invalid e q n = absurd (n q)
width_char s i w End e q n = absurd (n q)

pub width_turn : (s : List ℕ) (i w : ℕ) → w ≡ width_of (decode_at s i) → (w ≡ 0 → ⊥) → Turn s i w
width_turn s i w q n = width_char s i w (decode_at s i) refl q n

width_zero : (s : List ℕ) (i : ℕ) (x : Decoded) → i < length s → decode_at s i ≡ x → 0 ≡ width_of x → utf8 (drop i s) ≡ false
width_zero s i (Char v u) h e q = absurd (omega (arith, (turn s i v u e).0))
width_zero s i Invalid h e q = stops s i h e
width_zero s i End h e q = absurd (omega (arith, end_past s i e))

pub width_none : (s : List ℕ) (i w : ℕ) → i < length s → w ≡ width_of (decode_at s i) → w ≡ 0 → utf8 (drop i s) ≡ false
width_none s i w h q z = width_zero s i (decode_at s i) h refl (sym z ∙ q)

pub width_one : (s : List ℕ) (i : ℕ) → i < length s → get_or s i 0 < 0x80 → 1 ≡ width_of (decode_at s i)
width_one s i h a = rw (at_start s i h, seq_1 (get_or s i 0) (get_or s (i + 1) 0) (get_or s (i + 2) 0) (get_or s (i + 3) 0) a)
