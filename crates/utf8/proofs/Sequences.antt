-- What `sequence` is for each class of first byte, and what it says of the bytes where it is a character (RFC 3629, section 3).
use mathlib.Core.Path.{◌≡◌, refl, sym}
use mathlib.Core.Bool.{Bool, true, false, not, ◌&&◌, cond}
use mathlib.Core.List.{List}
use Prim.Native.Nat.{ℕ, ◌+◌, ◌-◌, ◌%◌, ◌<◌, ◌≤◌}
use native.Mathlib.Omega.{arith}
use lib.Dec.{ltb, leb}
use lib.ListN.{length, get_or}
use borrow.Author.Tests.{lt-ltb, le-ltb, le-leb, lt-leb, leb-true, ltb-true}
use Rattle.utf8.specs.Rfc3629.{follows, pick, scalar, sequence, value2, value3, value4, decode_at}
use Rattle.utf8.specs.declared.Decoded.{Decoded}
use Rattle.utf8.specs.declared.Decoded.TheVariants.{Char, Invalid, End}

pub both : (p q : Bool) → (p && q) ≡ true → (p ≡ true) × (q ≡ true)
both true q e = (refl, e)
both false q e = (e, cc)

-- what the test of a following byte says of the number. `omega` does one remainder at a time, so each is an equation of its own before the sums
pub follows_from : (b : ℕ) → follows b ≡ true → (0x80 ≤ b) × (b < 0xC0) × (b % 64 ≡ b - 0x80)
follows_from b e =
    let h = both (leb 0x80 b) (ltb b 0xC0) e in
    let l = leb-true 0x80 b h.0 in
    let m = ltb-true b 0xC0 h.1 in
    (l, m, omega arith)

module _ (a b c d : ℕ) where
  pub seq_1 : a < 0x80 → sequence a b c d ≡ Char a 1
  unfolding sequence
  seq_1 h = simp (lt-ltb a 0x80 h)

  pub seq_low : 0x80 ≤ a → a < 0xC0 → sequence a b c d ≡ Invalid
  unfolding sequence
  seq_low h k = simp (le-ltb a 0x80 h, lt-leb 0xC0 a k, lt-leb 0xE0 a (omega arith), lt-leb 0xF0 a (omega arith))

  pub seq_high : 0xF8 ≤ a → sequence a b c d ≡ Invalid
  unfolding sequence
  seq_high h = simp (
    le-ltb a 0x80 (omega arith),
    le-leb 0xC0 a (omega arith),
    le-ltb a 0xE0 (omega arith),
    le-leb 0xE0 a (omega arith),
    le-ltb a 0xF0 (omega arith),
    le-leb 0xF0 a (omega arith),
    le-ltb a 0xF8 h,
  )

  pub seq_2 : 0xC0 ≤ a → a < 0xE0 → sequence a b c d ≡ pick (follows b) (scalar 0x80 (value2 a b) 2) Invalid
  unfolding sequence
  seq_2 h k = simp (le-ltb a 0x80 (omega arith), le-leb 0xC0 a h, lt-ltb a 0xE0 k, lt-leb 0xE0 a k, lt-leb 0xF0 a (omega arith))

  pub seq_3 : 0xE0 ≤ a → a < 0xF0 → sequence a b c d ≡ pick (follows b && follows c) (scalar 0x800 (value3 a b c) 3) Invalid
  unfolding sequence
  seq_3 h k = simp (le-ltb a 0x80 (omega arith), le-leb 0xC0 a (omega arith), le-ltb a 0xE0 h, le-leb 0xE0 a h, lt-ltb a 0xF0 k, lt-leb 0xF0 a k)

  pub seq_4 : 0xF0 ≤ a → a < 0xF8 → sequence a b c d ≡ pick (follows b && follows c && follows d) (scalar 0x10000 (value4 a b c d) 4) Invalid
  unfolding sequence
  seq_4 h k = simp (le-ltb a 0x80 (omega arith), le-leb 0xC0 a (omega arith), le-ltb a 0xE0 (omega arith), le-leb 0xE0 a (omega arith), le-ltb a 0xF0 h, le-leb 0xF0 a h, lt-ltb a 0xF8 k)

module _ (s : List ℕ) (i : ℕ) where
  pub at_end : length s ≤ i → decode_at s i ≡ End
  unfolding decode_at
  at_end h = simp (le-ltb i (length s) h)

  pub at_start : i < length s → decode_at s i ≡ sequence (get_or s i 0) (get_or s (i + 1) 0) (get_or s (i + 2) 0) (get_or s (i + 3) 0)
  unfolding decode_at
  at_start h = simp (lt-ltb i (length s) h)

-- which arm an answer came from
pub pick_from : {P : Type 0} (t : Bool) (x y z : Decoded) → pick t x y ≡ z → (t ≡ true → x ≡ z → P) → (t ≡ false → y ≡ z → P) → P
pick_from true x y z e f g = f refl e
pick_from false x y z e f g = g refl e

pub scalar_width : (low u n v w : ℕ) → scalar low u n ≡ Char v w → n ≡ w
unfolding scalar
scalar_width low u n v w e = pick_from (leb low u && not (leb 0xD800 u && ltb u 0xE000) && ltb u 0x110000) (Char u n) Invalid (Char v w) e (λ t q. cc) (λ t q. cc)

-- what a sequence of w bytes says of its bytes
abbrev pub lead_width : ℕ → ℕ
lead_width a = cond (ltb a 0x80) 1 (cond (ltb a 0xE0) 2 (cond (ltb a 0xF0) 3 4))

pub record Bytes (a b c d w : ℕ) : Type 0 where
  pub lead : w ≡ lead_width a
  pub some : 0 < w
  pub most : w ≤ 4
  pub first : follows a ≡ false
  pub second : 1 < w → follows b ≡ true
  pub third : 2 < w → follows c ≡ true
  pub fourth : 3 < w → follows d ≡ true

pub follows_below : (a : ℕ) → a < 0x80 → follows a ≡ false
follows_below a h = simp (lt-leb 0x80 a h)

pub follows_above : (a : ℕ) → 0xC0 ≤ a → follows a ≡ false
follows_above a h = simp (le-leb 0x80 a (omega arith), le-ltb a 0xC0 h)

pub bytes_of : (a b c d v w : ℕ) → sequence a b c d ≡ Char v w → Bytes a b c d w
unfolding sequence
bytes_of a b c d v w e =
    pick_from (ltb a 0x80) _ _ _ e
    (λ t q. let n : 1 ≡ w = cc in
    record {
      lead = rw t (sym n);
      some = omega arith;
      most = omega arith;
      first = follows_below a (ltb-true a 0x80 t);
      second = λ h. absurd (omega arith);
      third =
          λ h. absurd (omega arith);
      fourth = λ h. absurd (omega arith);
    })
    (λ _ q. pick_from (leb 0xC0 a && ltb a 0xE0 && follows b) _ _ _ q
    (λ t r. let n = scalar_width _ _ _ _ _ r in
    let k = both (leb 0xC0 a && ltb a 0xE0) (follows b) t in
    let l = both (leb 0xC0 a) (ltb a 0xE0) k.0 in
    let m = leb-true 0xC0 a l.0 in
    record {
      lead = rw (le-ltb a 0x80 (omega arith), l.1) (sym n);
      some = omega arith;
      most = omega arith;
      first = follows_above a m;
      second =
          λ h. k.1;
      third = λ h. absurd (omega arith);
      fourth = λ h. absurd (omega arith);
    })
    (λ _ r. pick_from (leb 0xE0 a && ltb a 0xF0 && follows b && follows c) _ _ _ r
    (λ t z. let n = scalar_width _ _ _ _ _ z in
    let j = both (leb 0xE0 a && ltb a 0xF0 && follows b) (follows c) t in
    let k = both (leb 0xE0 a && ltb a 0xF0) (follows b) j.0 in
    let l = both (leb 0xE0 a) (ltb a 0xF0) k.0 in
    let m = leb-true 0xE0 a l.0 in
    record {
      lead = rw (le-ltb a 0x80 (omega arith), le-ltb a 0xE0 (omega arith), l.1) (sym n);
      some = omega arith;
      most = omega arith;
      first =
          follows_above a (omega arith);
      second = λ h. k.1;
      third = λ h. j.1;
      fourth = λ h. absurd (omega arith);
    })
    (λ _ z. pick_from (leb 0xF0 a && ltb a 0xF8 && follows b && follows c && follows d) _ _ _ z
    (λ t y. let n = scalar_width _ _ _ _ _ y in
    let i = both (leb 0xF0 a && ltb a 0xF8 && follows b && follows c) (follows d) t in
    let j = both (leb 0xF0 a && ltb a 0xF8 && follows b) (follows c) i.0 in
    let k = both (leb 0xF0 a && ltb a 0xF8) (follows b) j.0 in
    let l = both (leb 0xF0 a) (ltb a 0xF8) k.0 in
    let m = leb-true 0xF0 a l.0 in
    record {
      lead = rw (le-ltb a 0x80 (omega arith), le-ltb a 0xE0 (omega arith), le-ltb a 0xF0 m) (sym n);
      some = omega arith;
      most = omega arith;
      first =
          follows_above a (omega arith);
      second = λ h. k.1;
      third = λ h. j.1;
      fourth = λ h. i.1;
    })
    (λ _ y. let n : ◌≡◌ {A = ℕ} 0 1 = cc in absurd (omega arith)))))

scalar_no_end : (low u n : ℕ) → scalar low u n ≡ End → ⊥
unfolding scalar
scalar_no_end low u n e =
    pick_from (leb low u && not (leb 0xD800 u && ltb u 0xE000) && ltb u 0x110000) (Char u n) Invalid End e
    (λ t q. let z : ◌≡◌ {A = ℕ} 0 1 = cc in omega arith) (λ t q. let z : ◌≡◌ {A = ℕ} 0 1 = cc in omega arith)

pub seq_no_end : (a b c d : ℕ) → sequence a b c d ≡ End → ⊥
unfolding sequence
seq_no_end a b c d e =
    pick_from (ltb a 0x80) _ _ _ e (λ t q. let z : ◌≡◌ {A = ℕ} 0 1 = cc in omega arith)
    (λ _ q. pick_from (leb 0xC0 a && ltb a 0xE0 && follows b) _ _ _ q (λ t r. scalar_no_end _ _ _ r)
    (λ _ r. pick_from (leb 0xE0 a && ltb a 0xF0 && follows b && follows c) _ _ _ r (λ t z. scalar_no_end _ _ _ z)
    (λ _ z. pick_from (leb 0xF0 a && ltb a 0xF8 && follows b && follows c && follows d) _ _ _ z (λ t y. scalar_no_end _ _ _ y)
    (λ _ y. let n : ◌≡◌ {A = ℕ} 0 1 = cc in omega arith))))
