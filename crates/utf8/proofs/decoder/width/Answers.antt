-- `utf8::width` meets its contract: one test, computed over the 256 bytes, tells the count of leading ones in each row of the table; the sum gives the row's width.
use mathlib.Core.Path.{◌≡◌, refl, sym, ◌∙◌}
use mathlib.Core.Bool.{Bool, true, cond, ◌&&◌}
use Prim.Native.Nat.{ℕ, zero, suc, ◌-◌, ◌<◌}
use native.Mathlib.Omega.{arith}
use native.Mathlib.Decide.{dec_lt}
use lib.Count.{count_leading_zeros}
use lib.Dec.{ltb, eqb}
use borrow.Author.Tests.{lt-ltb, le-ltb, eqb-true}
use Rattle.utf8.proofs.Sequences.{both}
use Rattle.utf8.proofs.decoder.width.Goals as goal

-- a test at every number below n
unfoldable every : (ℕ → Bool) → ℕ → Bool
every f zero = true
every f (suc n) = f n && every f n

at : (f : ℕ → Bool) (n a : ℕ) → every f n ≡ true → a < n → f a ≡ true
unfolding every
at f zero a t h = absurd (omega arith)
at f (suc n) a t h =
    let b = both (f n) (every f n) t in
    elim (dec_lt a n) [ yes l ↦ at f n a b.1 l | no l ↦ let e : a ≡ n = omega arith in rw e b.0 ]

-- the leading ones of a byte
abbrev ones : ℕ → ℕ
ones a = count_leading_zeros 8 (255 - a)

-- a byte has as many as its row of the table says: none, two, three, four; 80 to BF and F8 to FF are of no row
unfoldable right : ℕ → Bool
right a =
    let n = ones a in
    cond (ltb a 0x80) (eqb n 0) (cond (ltb a 0xC0) true (cond (ltb a 0xE0) (eqb n 2) (cond (ltb a 0xF0) (eqb n 3) (cond (ltb a 0xF8) (eqb n 4) true))))

all_right : every right 256 ≡ true
unfolding every right count_leading_zeros
all_right = refl

counted : (a n : ℕ) → a < 256 → right a ≡ eqb (ones a) n → ones a ≡ n
counted a n h e = eqb-true (ones a) n (sym e ∙ at right 256 a all_right h)

pub returns : goal.returns
unfolding right
returns c =
    let a = c.args.a in
    let h = c.ranges.a.fits in
    record {
      one = λ k. omega (arith, counted a 0 h (simp (lt-ltb a 0x80 k)));
      two = λ j k. omega (arith, counted a 2 h (simp (le-ltb a 0x80 (omega arith), le-ltb a 0xC0 j, lt-ltb a 0xE0 k)));
      three = λ j k. omega (arith, counted a 3 h (simp (le-ltb a 0x80 (omega arith), le-ltb a 0xC0 (omega arith), le-ltb a 0xE0 j, lt-ltb a 0xF0 k)));
      four = λ j k. omega (arith, counted a 4 h (simp (le-ltb a 0x80 (omega arith), le-ltb a 0xC0 (omega arith), le-ltb a 0xE0 (omega arith), le-ltb a 0xF0 j, lt-ltb a 0xF8 k)));
    }
