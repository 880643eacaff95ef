-- The low bits of a sequence's bytes, and what the joins make of a sequence.
use mathlib.Core.Path.{◌≡◌, sym, ◌∙◌}
use mathlib.Core.Bool.{Bool, true, false}
use Prim.Native.Nat.{ℕ, ◌+◌, ◌-◌, ◌*◌, ◌/◌, ◌%◌, ◌<◌, ◌≤◌}
use native.Mathlib.Omega.{arith}
use native.Mathlib.Decide.{dec_lt}
use lib.Bits.{bit_and, and_mask}
use Rattle.utf8.specs.Rfc3629.{follows, scalar, sequence, value2, value3, value4}
use Rattle.utf8.proofs.Sequences.{follows_from, seq_2, seq_3, seq_4}
use Rattle.utf8.specs.declared.Decoded.TheVariants.{Invalid}

-- the low bits of a first byte
low_4 : (a : ℕ) → 0xE0 ≤ a → a < 0xF0 → a % 16 ≡ a - 0xE0
low_4 a h k = let q : a / 16 ≡ 14 = omega arith in omega arith

low_3 : (a : ℕ) → 0xF0 ≤ a → a < 0xF8 → a % 8 ≡ a - 0xF0
low_3 a h k = let q : a / 8 ≡ 30 = omega arith in omega arith

module _ (a b c d : ℕ) where
  -- the answer of the joins, by the first byte's low bits and the following bytes
  pub is_2 : (f : Bool) (j : ℕ) → 0xC0 ≤ a → a < 0xE0 → f ≡ follows b → f ≡ true → j ≡ bit_and a 31 * 64 + b % 64 → scalar 0x80 j 2 ≡ sequence a b c d
  is_2 f j h k p t e =
      let fb : follows b ≡ true = sym p ∙ t in
      let hb = follows_from b fb in
      let v : j ≡ value2 a b = e ∙ rw (and_mask a 5) (omega arith) in
      rw v (sym (seq_2 a b c d h k ∙ rw fb))

  pub is_3 : (f g : Bool) (i j : ℕ) → 0xE0 ≤ a → a < 0xF0 → f ≡ follows b → f ≡ true → g ≡ follows c → g ≡ true → i ≡ bit_and a 15 * 64 + b % 64 →
      j ≡ i * 64 + c % 64 → scalar 0x800 j 3 ≡ sequence a b c d
  is_3 f g i j h k p t q u e e' =
      let fb : follows b ≡ true = sym p ∙ t in
      let fc : follows c ≡ true = sym q ∙ u in
      let hb = follows_from b fb in
      let hc = follows_from c fc in
      let w : i ≡ a % 16 * 64 + b % 64 = e ∙ rw (and_mask a 4) in
      let m = low_4 a h k in
      let v : j ≡ value3 a b c = omega arith in
      rw v (sym (seq_3 a b c d h k ∙ rw (fb, fc)))

  pub is_4 : (f g k : Bool) (i j l : ℕ) → 0xF0 ≤ a → a < 0xF8 → f ≡ follows b → f ≡ true → g ≡ follows c → g ≡ true → k ≡ follows d → k ≡ true →
      i ≡ bit_and a 7 * 64 + b % 64 → j ≡ i * 64 + c % 64 → l ≡ j * 64 + d % 64 → scalar 0x10000 l 4 ≡ sequence a b c d
  is_4 f g k i j l h m p t q u r x e e' e'' =
      let fb : follows b ≡ true = sym p ∙ t in
      let fc : follows c ≡ true = sym q ∙ u in
      let fd : follows d ≡ true = sym r ∙ x in
      let hb = follows_from b fb in
      let hc = follows_from c fc in
      let hd = follows_from d fd in
      let w : i ≡ a % 8 * 64 + b % 64 = e ∙ rw (and_mask a 3) in
      let n = low_3 a h m in
      let v : l ≡ value4 a b c d = omega arith in
      rw v (sym (seq_4 a b c d h m ∙ rw (fb, fc, fd)))

  -- a byte that should follow and does not
  pub no_b : (f : Bool) → 0xC0 ≤ a → a < 0xF8 → f ≡ follows b → f ≡ false → Invalid ≡ sequence a b c d
  no_b f h k p t = let fb : follows b ≡ false = sym p ∙ t in
      elim (dec_lt a 0xE0) [
        | yes l ↦ sym (seq_2 a b c d h l ∙ rw fb)
        | no l ↦ elim (dec_lt a 0xF0) [ yes m ↦ sym (seq_3 a b c d (omega arith) m ∙ rw fb) | no m ↦ sym (seq_4 a b c d (omega arith) k ∙ rw fb) ]
      ]

  pub no_c : (f g : Bool) → 0xE0 ≤ a → a < 0xF8 → f ≡ follows b → f ≡ true → g ≡ follows c → g ≡ false → Invalid ≡ sequence a b c d
  no_c f g h k p t q u = let fb : follows b ≡ true = sym p ∙ t in let fc : follows c ≡ false = sym q ∙ u in
      elim (dec_lt a 0xF0) [ yes m ↦ sym (seq_3 a b c d h m ∙ rw (fb, fc)) | no m ↦ sym (seq_4 a b c d (omega arith) k ∙ rw (fb, fc)) ]

  pub no_d : (f g e : Bool) → 0xF0 ≤ a → a < 0xF8 → f ≡ follows b → f ≡ true → g ≡ follows c → g ≡ true → e ≡ follows d → e ≡ false → Invalid ≡ sequence a b c d
  no_d f g e h k p t q u r x = let fb : follows b ≡ true = sym p ∙ t in let fc : follows c ≡ true = sym q ∙ u in let fd : follows d ≡ false = sym r ∙ x in sym (seq_4 a b c d h k ∙ rw (fb, fc, fd))
