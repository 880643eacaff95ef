-- The bits of a word: of two words joined or met, and of a part of a word.
use mathlib.Core.Path.{◌≡◌, refl, ap, ap₂, sym, ◌∙◌}
use Prim.Native.Nat.{ℕ, suc, ◌+◌, ◌*◌, ◌-◌, ◌/◌, ◌%◌, ◌^◌, ◌≤◌, ◌<◌, min, max}
use native.Mathlib.Omega.{arith}
use native.Mathlib.Decide.{dec_lt}
use native.Mathlib.Nat.{div-one, zero-div, div-eq_of_lt, mul_assoc, max-add-min, lt_of_lt_of_le}
use lib.Arith.{bin_ind, digits_mod}
use lib.Pow.{pow-add, pow_mono, shl-shr, shr-shr, shl_exact, high, ones_split, ones_lt}
use lib.Bits.{bit_and, bit_or, and_step, or_step, and_shr, or_shr, shifted_even}
use Rattle.memory.specs.WellFormed.{among}
use Rattle.memory.proofs.Desks.{among_in, among_out}
use Rattle.check_bit_marks.specs.BitMarks.{bit, part_of}

pub bit_le : (w k : ℕ) → bit w k ≤ 1
unfolding bit
bit_le w k = omega arith

-- ── two words ──
low_and : (a b : ℕ) → bit_and a b % 2 + bit_or a b % 2 ≡ a % 2 + b % 2
low_and a b =
    let x : min (a % 2) (b % 2) < 2 = omega arith in
    let y : max (a % 2) (b % 2) < 2 = omega arith in
    let p = ap (λ (n : ℕ). n % 2) (and_step a b) ∙ digits_mod (bit_and (a / 2) (b / 2)) x in
    let q = ap (λ (n : ℕ). n % 2) (or_step a b) ∙ digits_mod (bit_or (a / 2) (b / 2)) y in
    omega (arith, p, q, max-add-min (a % 2) (b % 2))

pub bit_both : (a b k : ℕ) → bit (bit_and a b) k + bit (bit_or a b) k ≡ bit a k + bit b k
unfolding bit
bit_both a b k =
    ap₂ (λ (x y : ℕ). x % 2 + y % 2) (and_shr a b k) (or_shr a b k) ∙ low_and (a / 2 ^ k) (b / 2 ^ k)

low_one : (a b : ℕ) → a % 2 + b % 2 ≤ 1 → bit_and a b % 2 ≡ 0
low_one a b h =
    let x : min (a % 2) (b % 2) ≡ 0 = omega arith in
    let y : min (a % 2) (b % 2) < 2 = omega arith in
    ap (λ (n : ℕ). n % 2) (and_step a b) ∙ digits_mod (bit_and (a / 2) (b / 2)) y ∙ x

bit_one : (a b k : ℕ) → bit a k + bit b k ≤ 1 → bit (bit_and a b) k ≡ 0
unfolding bit
bit_one a b k h = ap (λ (n : ℕ). n % 2) (and_shr a b k) ∙ low_one (a / 2 ^ k) (b / 2 ^ k) h

pub bit_zero : (k : ℕ) → bit 0 k ≡ 0
unfolding bit
bit_zero k = ap (λ (n : ℕ). n % 2) (zero-div (2 ^ k))

bit_first : (w : ℕ) → bit w 0 ≡ w % 2
unfolding bit
bit_first w = ap (λ (n : ℕ). n % 2) (div-one w)

bit_half : (w k : ℕ) → bit (w / 2) k ≡ bit w (1 + k)
unfolding bit
bit_half w k = ap (λ (n : ℕ). n % 2) (shr-shr w 1 k)

-- a word with no bit set is 0
no_bits : (w : ℕ) → ((k : ℕ) → bit w k ≡ 0) → w ≡ 0
no_bits =
    bin_ind (λ (w : ℕ). ((k : ℕ) → bit w k ≡ 0) → w ≡ 0) (λ h. refl)
    (λ w ih h. omega (arith, ih (λ k. bit_half w k ∙ h (1 + k)), bit_first w, h 0))

-- nor has one of k bits a bit from k on
pub bit_above : (w j k : ℕ) → w < 2 ^ j → j ≤ k → bit w k ≡ 0
unfolding bit
bit_above w j k l h = ap (λ (x : ℕ). x % 2) (div-eq_of_lt (lt_of_lt_of_le l (pow_mono h)))

pub no_bits_64 : (w : ℕ) → w < 2 ^ 64 → ((k : ℕ) → k < 64 → bit w k ≡ 0) → w ≡ 0
no_bits_64 w l h = no_bits w (λ k. elim (dec_lt k 64) [ yes m ↦ h k m | no m ↦ bit_above w 64 k l (omega arith) ])

-- words that have no bit in common: told by the bits, and what they join to
pub apart : (a b : ℕ) → ((k : ℕ) → bit a k + bit b k ≤ 1) → bit_and a b ≡ 0
apart a b h = no_bits (bit_and a b) (λ k. bit_one a b k (h k))

pub joined : (a b k : ℕ) → bit_and a b ≡ 0 → bit (bit_or a b) k ≡ bit a k + bit b k
joined a b k e = omega (arith, bit_both a b k, ap (λ (n : ℕ). bit n k) e, bit_zero k)

-- ── a part of a word ──
module _ (lo n : ℕ) where
  below : (d k : ℕ) → lo ≡ suc d + k → bit (part_of lo n) k ≡ 0
  unfolding bit part_of
  below d k e =
      rw e (ap (λ (x : ℕ). x / 2 ^ k % 2) (ap (λ (x : ℕ). (2 ^ n - 1) * x) (pow-add 2 (suc d) k) ∙ sym (mul_assoc (2 ^ n - 1) (2 ^ suc d) (2 ^ k)))
      ∙ ap (λ (x : ℕ). x % 2) (shl-shr ((2 ^ n - 1) * 2 ^ suc d) k) ∙ shifted_even (2 ^ n - 1) d)

  from : (j k : ℕ) → k ≡ lo + j → bit (part_of lo n) k ≡ bit (2 ^ n - 1) j
  unfolding bit part_of
  from j k e =
      rw e (ap (λ (x : ℕ). x % 2) (sym (shr-shr ((2 ^ n - 1) * 2 ^ lo) lo j) ∙ ap (λ (x : ℕ). x / 2 ^ j) (shl-shr (2 ^ n - 1) lo)))

ones_in : (n d j : ℕ) → n ≡ d + 1 + j → bit (2 ^ n - 1) j ≡ 1
unfolding bit
ones_in n d j e =
    rw e (ap (λ (x : ℕ). x / 2 ^ j % 2) (ones_split (d + 1) j) ∙ ap (λ (x : ℕ). x % 2) (high (2 ^ (d + 1) - 1) j (ones_lt j) ∙ ones_split d 1)
    ∙ digits_mod (2 ^ d - 1) {m = 2} {r = 1} (omega arith))

pub part_bit : (lo n k : ℕ) → bit (part_of lo n) k ≡ among (lo, n) k
part_bit lo n k =
    elim (dec_lt k lo) [
      | yes l ↦ below lo n (lo - k - 1) k (omega arith) ∙ sym (among_out lo n k (λ x y. omega arith))
      | no l ↦ from lo n (k - lo) k (omega arith)
          ∙ elim (dec_lt k (lo + n)) [
            | yes m ↦ ones_in n (n - (k - lo) - 1) (k - lo) (omega arith) ∙ sym (among_in lo n k (omega arith) m)
            | no m ↦ bit_above (2 ^ n - 1) n (k - lo) (ones_lt n) (omega arith) ∙ sym (among_out lo n k (λ x y. omega arith))
          ]
    ]

-- a word with every bit set
pub full_bit : (k : ℕ) → k < 64 → bit 18446744073709551615 k ≡ 1
unfolding part_of
full_bit k h = part_bit 0 64 k ∙ among_in 0 64 k (omega arith) (omega arith)

-- the part, by two shifts
pub part_shifts : (lo n : ℕ) → lo + n ≤ 64 → 18446744073709551615 / 2 ^ (64 - n) * 2 ^ lo % 2 ^ 64 ≡ part_of lo n
unfolding part_of
part_shifts lo n h =
    let e : 64 ≡ n + (64 - n) = omega arith in
    let s : 2 ^ 64 - 1 ≡ (2 ^ n - 1) * 2 ^ (64 - n) + (2 ^ (64 - n) - 1) = ap (λ (x : ℕ). 2 ^ x - 1) e ∙ ones_split n (64 - n) in
    let q : 18446744073709551615 / 2 ^ (64 - n) ≡ 2 ^ n - 1 = ap (λ (x : ℕ). x / 2 ^ (64 - n)) s ∙ high (2 ^ n - 1) (64 - n) (ones_lt (64 - n)) in
    ap (λ (x : ℕ). x * 2 ^ lo % 2 ^ 64) q ∙ shl_exact n lo 64 (ones_lt n) (omega arith)
