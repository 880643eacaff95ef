-- Marking bits: the part of a stretch that lies in one word, and one part after another.
use mathlib.Core.Path.{◌≡◌, refl, ap, sym, ◌∙◌}
use mathlib.Core.Bool.{Bool, true, false}
use mathlib.Core.List.{List}
use Prim.Native.Nat.{ℕ, ◌+◌, ◌*◌, ◌-◌, ◌/◌, ◌%◌, ◌^◌, ◌≤◌, ◌<◌}
use native.Mathlib.Omega.{arith}
use native.Mathlib.Decide.{ℕ_discrete, dec_lt}
use borrow.Author.Tests.{eq-eqb, ne_eqb}
use Rattle.std.proofs.Common.{nat_eq}
use lib.Bits.{bit_and, bit_or}
use lib.ListN.{length, get_or, set, length-set, replicate}
use lib.Seq.{get_or-set_same, get_or-set_other}
use Rattle.utf8.proofs.Between.{or_left, or_right}
use Rattle.memory.specs.WellFormed.{among}
use Rattle.memory.proofs.Desks.{among_in, among_out, among_none}
use Rattle.memory_counting.proofs.Sums.{is_yes, zero_at}
use Rattle.check_marks.specs.Marks.{Bits, Free}
use Rattle.check_marks.proofs.Marking.{refused, then_on, marked_by}
use Rattle.check_bit_marks.specs.BitMarks.{bit, bit_at, part_of, Stretch}
use Rattle.check_bit_marks.proofs.Bits.{bit_le, bit_zero, no_bits_64, apart, joined, part_bit, full_bit}

-- ── the marks one by one ──
marks_at : (ws : List ℕ) (b : ℕ) → bit_at ws b ≡ bit (get_or ws (b / 64) 0) (b % 64)
unfolding bit_at
marks_at ws b = refl

pub marks_bits : (ws : List ℕ) → Bits (bit_at ws)
unfolding Bits
marks_bits ws b = omega (arith, marks_at ws b, bit_le (get_or ws (b / 64) 0) (b % 64))

pub marks_clear : (n b : ℕ) → bit_at (replicate n 0) b ≡ 0
marks_clear n b = marks_at (replicate n 0) b ∙ ap (λ x. bit x (b % 64)) (zero_at n (b / 64)) ∙ bit_zero (b % 64)

-- ── a part in one word ──
module _ (at n b : ℕ) (h : at % 64 + n ≤ 64) where
  among_same : b / 64 ≡ at / 64 → among (at % 64, n) (b % 64) ≡ among (at, n) b
  among_same e =
      elim (dec_lt b at) [
        | yes l ↦ among_out (at % 64) n (b % 64) (λ x y. omega arith) ∙ sym (among_out at n b (λ x y. omega arith))
        | no l ↦ elim (dec_lt b (at + n)) [
          | yes m ↦ among_in (at % 64) n (b % 64) (omega arith) (omega arith) ∙ sym (among_in at n b (omega arith) m)
          | no m ↦ among_out (at % 64) n (b % 64) (λ x y. omega arith) ∙ sym (among_out at n b (λ x y. omega arith))
        ]
      ]

  among_other : (b / 64 ≡ at / 64 → ⊥) → among (at, n) b ≡ 0
  among_other ne = among_out at n b (λ x y. ne (omega arith))

module _ (ws : List ℕ) (at n w mask : ℕ) (h : at % 64 + n ≤ 64) (l : at / 64 < length ws) (ew : w ≡ get_or ws (at / 64) 0) (em : mask ≡ part_of (at % 64) n) where
  bit_of : (b : ℕ) → b / 64 ≡ at / 64 → bit mask (b % 64) ≡ among (at, n) b
  bit_of b e = ap (λ x. bit x (b % 64)) em ∙ part_bit (at % 64) n (b % 64) ∙ among_same at n b h e

  set_at : bit_and w mask ≡ 0 → (b : ℕ) → bit_at (set ws (at / 64) (bit_or w mask)) b ≡ bit_at ws b + among (at, n) b
  set_at z b =
      let x = marks_at (set ws (at / 64) (bit_or w mask)) b in
      let y = marks_at ws b in
      elim (ℕ_discrete (b / 64) (at / 64)) [
        | yes e ↦
            let p : get_or (set ws (at / 64) (bit_or w mask)) (b / 64) 0 ≡ bit_or w mask = rw e (get_or-set_same ws (at / 64) (bit_or w mask) 0 l) in
            let q : get_or ws (b / 64) 0 ≡ w = rw e (sym ew) in
            let u = ap (λ v. bit v (b % 64)) p ∙ joined w mask (b % 64) z in
            let v = ap (λ v. bit v (b % 64)) q in
            omega (arith, bit_of b e)
        | no ne ↦
            let p = ap (λ v. bit v (b % 64)) (get_or-set_other ws (at / 64) (b / 64) (bit_or w mask) 0 ne) in
            omega (arith, among_other at n b h ne)
      ]

  pub part_marked : bit_and w mask ≡ 0
      → Stretch true ws at n (set ws (at / 64) (bit_or w mask))
  unfolding Bits
  part_marked z =
      record {
        decides = is_yes (record {
          fits = omega arith;
          free = λ b. omega (arith, set_at z b, marks_bits (set ws (at / 64) (bit_or w mask)) b);
        });
        marks = λ t b. set_at z b;
      }

  -- a place that is marked already
  pub part_twice : (bit_and w mask ≡ 0 → ⊥) → Free (bit_at ws) (at + n ≤ length ws * 64) (among (at, n)) → ⊥
  part_twice ne f =
      ne (apart w mask (λ k. elim (dec_lt k 64) [
        | yes m ↦
            let b : ℕ = at / 64 * 64 + k in
            let e : b / 64 ≡ at / 64 = omega arith in
            let i : b % 64 ≡ k = omega arith in
            let q : bit (get_or ws (b / 64) 0) (b % 64) ≡ bit w k = rw (e, i, ← ew) in
            let r : bit mask k ≡ among (at, n) b = ap (bit mask) (sym i) ∙ bit_of b e in
            omega (arith, f.free b, marks_at ws b)
        | no m ↦ omega (arith, bit_le w k, ap (λ x. bit x k) em ∙ part_bit (at % 64) n k, among_out (at % 64) n k (λ x y. omega arith))
      ]))

-- ── one part after another ──
among_more : (at j k b : ℕ) → among (at, j) b + among (at + j, k) b ≡ among (at, j + k) b
among_more at j k b =
    elim (dec_lt b at) [
      | yes l ↦ omega (arith, among_out at j b (λ x y. omega arith), among_out (at + j) k b (λ x y. omega arith), among_out at (j + k) b (λ x y. omega arith))
      | no l ↦ elim (dec_lt b (at + j)) [
        | yes m ↦ omega (arith, among_in at j b (omega arith) m, among_out (at + j) k b (λ x y. omega arith), among_in at (j + k) b (omega arith) (omega arith))
        | no m ↦ elim (dec_lt b (at + (j + k))) [
          | yes o ↦ omega (arith, among_out at j b (λ x y. omega arith), among_in (at + j) k b (omega arith) (omega arith), among_in at (j + k) b (omega arith) o)
          | no o ↦ omega (arith, among_out at j b (λ x y. omega arith), among_out (at + j) k b (λ x y. omega arith), among_out at (j + k) b (λ x y. omega arith))
        ]
      ]
    ]

-- no place at all
pub stretch_none : (ws : List ℕ) (at n : ℕ) → n ≡ 0 → at ≤ length ws * 64 → Stretch true ws at n ws
unfolding Bits
stretch_none ws at n e h =
    let z : (b : ℕ) → among (at, n) b ≡ 0 = λ b. rw e (among_none at b) in
    record {
      decides = is_yes (record { fits = omega arith; free = λ b. omega (arith, z b, marks_bits ws b) });
      marks = λ t b. omega (arith, z b);
    }

module _ {r : Bool} (ws ws₁ : List ℕ) (at j k n : ℕ) (e : n ≡ j + k) (a : Stretch r ws at j ws₁) where
  pub stretch_on : {q : Bool} (ws₂ : List ℕ) → r ≡ true → length ws₁ ≡ length ws → (from : ℕ) → from ≡ at + j → Stretch q ws₁ from k ws₂ → Stretch q ws at n ws₂
  stretch_on ws₂ t l from g c =
      rw e (marked_by (then_on a t (rw g at c)) (λ f. omega arith) (λ f. (omega arith, omega arith)) (among (at, j + k)) (λ b. sym (among_more at j k b)))

  pub stretch_no : (ws₂ : List ℕ) → r ≡ false → Stretch false ws at n ws₂
  stretch_no ws₂ f =
      refused (λ z. a.decides.no f (record {
        fits = omega (arith, z.fits);
        free = λ b. omega (arith, z.free b, among_more at j k b, ap (λ x. among (at, x) b) e);
      }))

-- ── whole words ──
-- after the words from first up to i: they are full, the others what they were; `seen` is 0 exactly if they were
pub record Whole (ws₀ : List ℕ) (first i : ℕ) (ws : List ℕ) (seen : ℕ) : Type 0 where
  pub same : length ws ≡ length ws₀
  pub full : (j : ℕ) → first ≤ j → j < i → get_or ws j 0 ≡ 18446744073709551615
  pub others : (j : ℕ) → (first ≤ j → j < i → ⊥) → get_or ws j 0 ≡ get_or ws₀ j 0
  pub least : (j : ℕ) → first ≤ j → j < i → get_or ws₀ j 0 ≤ seen
  pub free : ((j : ℕ) → first ≤ j → j < i → (k : ℕ) → k < 64 → bit (get_or ws₀ j 0) k ≡ 0) → seen ≡ 0

pub whole_more : {ws₀ ws : List ℕ} {first i seen : ℕ} → Whole ws₀ first i ws seen → first ≤ i → i < length ws → get_or ws i 0 < 2 ^ 64
    → Whole ws₀ first (i + 1) (set ws i 18446744073709551615) (bit_or seen (get_or ws i 0))
whole_more {ws₀} {ws} {first} {i} {seen} w f h small =
    let here : get_or ws i 0 ≡ get_or ws₀ i 0 = w.others i (λ l n. omega arith) in
    record {
      same = simp length-set w.same;
      full = λ j l n. elim (ℕ_discrete j i) [
        | yes e ↦ rw e (get_or-set_same ws i 18446744073709551615 0 h)
        | no ne ↦ get_or-set_other ws i j 18446744073709551615 0 ne ∙ w.full j l (omega arith)
      ];
      others = λ j n. get_or-set_other ws i j 18446744073709551615 0 (λ e. n (omega arith) (omega arith)) ∙ w.others j (λ l o. n l (omega arith));
      least = λ j l n. elim (ℕ_discrete j i) [
        | yes e ↦ rw (e, ← here) (or_right seen (get_or ws i 0))
        | no ne ↦ omega (arith, w.least j l (omega arith), or_left seen (get_or ws i 0))
      ];
      free = λ z.
          let zero-here : get_or ws i 0 ≡ 0 = no_bits_64 (get_or ws i 0) small (λ k l. ap (λ x. bit x k) here ∙ z i f (omega arith) k l) in
          rw (w.free (λ j l n. z j l (omega arith)), zero-here);
    }

module _ {ws₀ ws : List ℕ} {first i seen : ℕ} (w : Whole ws₀ first i ws seen) (f : first ≤ i) (l : i ≤ length ws₀) (end : ℕ) (e : i ≡ end) where
  whole_in : (b : ℕ) → first ≤ b / 64 → b / 64 < i → among (first * 64, (i - first) * 64) b ≡ 1
  whole_in b x y = among_in (first * 64) ((i - first) * 64) b (omega arith) (omega arith)

  whole_at : seen ≡ 0 → (b : ℕ) → bit_at ws b ≡ bit_at ws₀ b + among (first * 64, (i - first) * 64) b
  whole_at z b =
      let x = marks_at ws b in
      let y = marks_at ws₀ b in
      let same : (first ≤ b / 64 → b / 64 < i → ⊥) → bit_at ws b ≡ bit_at ws₀ b + among (first * 64, (i - first) * 64) b =
      λ n. let p = ap (λ v. bit v (b % 64)) (w.others (b / 64) n) in
      omega (arith, among_out (first * 64) ((i - first) * 64) b (λ u v. n (omega arith) (omega arith))) in
      elim (dec_lt (b / 64) first) [
        | yes n ↦ same (λ u v. omega arith)
        | no n ↦ elim (dec_lt (b / 64) i) [
          | yes m ↦
              let p = ap (λ v. bit v (b % 64)) (w.full (b / 64) (omega arith) m) ∙ full_bit (b % 64) (omega arith) in
              let e : get_or ws₀ (b / 64) 0 ≡ 0 = omega (arith, w.least (b / 64) (omega arith) m) in
              let q = ap (λ v. bit v (b % 64)) e ∙ bit_zero (b % 64) in
              omega (arith, whole_in b (omega arith) m)
          | no m ↦ same (λ u v. omega arith)
        ]
      ]

  whole_done : seen ≡ 0 → Stretch true ws₀ (first * 64) ((end - first) * 64) ws
  unfolding Bits
  whole_done z =
      rw (sym e) (record {
        decides = is_yes (record { fits = omega (arith, w.same); free = λ b. omega (arith, whole_at z b, marks_bits ws b) });
        marks = λ t b. whole_at z b;
      })

  whole_twice : (ws' : List ℕ) → (seen ≡ 0 → ⊥) → Stretch false ws₀ (first * 64) ((end - first) * 64) ws'
  whole_twice ws' ne =
      rw (sym e) (refused (λ z. ne (w.free (λ j x y k h.
      let b : ℕ = j * 64 + k in
      let d : b / 64 ≡ j = omega arith in
      let g : b % 64 ≡ k = omega arith in
      let q : bit (get_or ws₀ (b / 64) 0) (b % 64) ≡ bit (get_or ws₀ j 0) k = rw (d, g) in
      omega (arith, z.free b, marks_at ws₀ b, whole_in b (omega arith) (omega arith))))))

  -- whether none of them had a mark
  pub whole_tells : Stretch (nat_eq seen 0) ws₀ (first * 64) ((end - first) * 64) ws
  whole_tells =
      elim (ℕ_discrete seen 0) [
        | yes z ↦ rw (eq-eqb seen 0 z) (whole_done z)
        | no ne ↦ rw (ne_eqb seen 0 ne) (whole_twice ws ne)
      ]

-- ── the end of the first word, whole words, the front of the last ──
module _ (ws ws₁ : List ℕ) (at n : ℕ) (h : 64 < at % 64 + n) {r : Bool} (a : Stretch r ws at (64 - at % 64) ws₁) where
  pub long_first : (ws' : List ℕ) → r ≡ false → Stretch false ws at n ws'
  long_first ws' f = stretch_no ws ws₁ at (64 - at % 64) (n - (64 - at % 64)) n (omega arith) a ws' f

  module _ (ws₂ : List ℕ) (t : r ≡ true) (l : length ws₁ ≡ length ws) {q : Bool}
      (b : Stretch q ws₁ ((at / 64 + 1) * 64) (((at + n) / 64 - (at / 64 + 1)) * 64) ws₂) where
    two : Stretch q ws at (64 - at % 64 + ((at + n) / 64 - (at / 64 + 1)) * 64) ws₂
    two = stretch_on ws ws₁ at (64 - at % 64) (((at + n) / 64 - (at / 64 + 1)) * 64) _ refl a ws₂ t l ((at / 64 + 1) * 64) (omega arith) b

    pub long_words : (ws' : List ℕ) → q ≡ false → Stretch false ws at n ws'
    long_words ws' f = stretch_no ws ws₂ at _ ((at + n) % 64) n (omega arith) two ws' f

    pub long_tail : (ws₃ : List ℕ) → q ≡ true → length ws₂ ≡ length ws₁ → {p : Bool} → Stretch p ws₂ ((at + n) / 64 * 64) ((at + n) % 64) ws₃ → Stretch p ws at n ws₃
    long_tail ws₃ u m c =
        stretch_on ws ws₂ at (64 - at % 64 + ((at + n) / 64 - (at / 64 + 1)) * 64) ((at + n) % 64) n (omega arith) two ws₃ u (m ∙ l) ((at + n) / 64 * 64) (omega arith) c
