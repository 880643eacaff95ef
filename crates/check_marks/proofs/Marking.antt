-- Marking: one stretch of a list, one after another, and in a loop.
use mathlib.Core.Path.{◌≡◌, ◌∙◌}
use mathlib.Core.Bool.{Bool, true, false}
use mathlib.Core.List.{List}
use Prim.Native.Nat.{ℕ, suc, ◌+◌, ◌≤◌, ◌<◌}
use native.Mathlib.Omega.{arith}
use native.Mathlib.Numerals.{add-one}
use native.Mathlib.Decide.{ℕ_discrete, dec_lt}
use borrow.Author.Tests.{eq-eqb, ne_eqb}
use Rattle.std.proofs.Common.{nat_eq}
use lib.Bits.{bit_or}
use lib.ListN.{length, get_or, set, length-set}
use lib.Seq.{get_or-set_same, get_or-set_other}
use borrow.Author.Count.{below_more}
use Rattle.utf8.proofs.Between.{or_left, or_right}
use Rattle.memory.specs.WellFormed.{among}
use Rattle.memory.proofs.Desks.{among_in, among_out}
use Rattle.memory_counting.specs.Counts.{sum_to}
use Rattle.memory_counting.proofs.Sums.{is_yes, is_no, not_both, sum_mono}
use Rattle.check_marks.specs.Marks.{mark_at, Bits, Free, Marked}

pub refused : {B : Type 0} {m m' : B → ℕ} {F : Type 0} {f : B → ℕ} → (Free m F f → ⊥) → Marked false m F f m'
refused x = record { decides = is_no x; marks = λ e. not_both e }

-- nothing to mark
pub marked_none : {B : Type 0} {m : B → ℕ} {F : Type 0} {f : B → ℕ} → Bits m → F → ((b : B) → f b ≡ 0) → Marked true m F f m
unfolding Bits
marked_none h x z = record { decides = is_yes (record { fits = x; free = λ b. omega (arith, h b, z b) }); marks = λ t b. omega (arith, z b) }

-- ── one stretch ──
-- the places from at up to i have a mark, the others what they had; `seen` is 0 exactly if none of them had one
pub record Marking (m₀ : List ℕ) (at i : ℕ) (m : List ℕ) (seen : ℕ) : Type 0 where
  pub same : length m ≡ length m₀
  pub held : (b : ℕ) → at ≤ b → b < i → get_or m b 0 ≡ 1
  pub least : (b : ℕ) → at ≤ b → b < i → get_or m₀ b 0 ≤ seen
  pub others : (b : ℕ) → (at ≤ b → b < i → ⊥) → get_or m b 0 ≡ get_or m₀ b 0
  pub free : ((b : ℕ) → at ≤ b → b < i → get_or m₀ b 0 ≡ 0) → seen ≡ 0

pub marking_more : {m₀ : List ℕ} {at i : ℕ} {m : List ℕ} {seen : ℕ} → Marking m₀ at i m seen → at ≤ i → i < length m
    → Marking m₀ at (i + 1) (set m i 1) (bit_or seen (get_or m i 0))
marking_more {m₀} {at} {i} {m} {seen} k p h =
    let here : get_or m i 0 ≡ get_or m₀ i 0 = k.others i (λ l n. omega arith) in
    record {
      same = simp length-set k.same;
      held = λ b l n. elim (ℕ_discrete b i) [
        | yes e ↦ rw e (get_or-set_same m i 1 0 h)
        | no ne ↦ get_or-set_other m i b 1 0 ne ∙ k.held b l (omega arith)
      ];
      least = λ b l n. elim (ℕ_discrete b i) [
        | yes e ↦ rw (e, ← here) (or_right seen (get_or m i 0))
        | no ne ↦ omega (arith, k.least b l (omega arith), or_left seen (get_or m i 0))
      ];
      others = λ b n. get_or-set_other m i b 1 0 (λ e. n (omega arith) (omega arith)) ∙ k.others b (λ l o. n l (omega arith));
      free = λ z. rw (k.free (λ b l n. z b l (omega arith)), here, z i (omega arith) (omega arith));
    }

module _ {m₀ : List ℕ} {at i : ℕ} (n : ℕ) {m : List ℕ} {seen : ℕ} (k : Marking m₀ at i m seen) (e : i ≡ at + n) where
  marking_done : Bits (mark_at m₀) → at + n ≤ length m₀ → seen ≡ 0 → Marked true (mark_at m₀) (at + n ≤ length m₀) (among (at, n)) (mark_at m)
  unfolding Bits mark_at
  marking_done h l z =
      let in? : (b : ℕ) → (get_or m₀ b 0 + among (at, n) b ≤ 1) × (get_or m b 0 ≡ get_or m₀ b 0 + among (at, n) b) =
      λ b. elim (dec_lt b at) [
        | yes p ↦ let a = among_out at n b (λ x y. omega arith) in let o = k.others b (λ x y. omega arith) in (omega (arith, h b), omega arith)
        | no p ↦ elim (dec_lt b (at + n)) [
          | yes q ↦ let a = among_in at n b (omega arith) q in
              let u = k.held b (omega arith) (omega arith) in
              let v = k.least b (omega arith) (omega arith) in
              (omega arith, omega arith)
          | no q ↦ let a = among_out at n b (λ x y. omega arith) in let o = k.others b (λ x y. omega arith) in (omega (arith, h b), omega arith)
        ]
      ] in
      record { decides = is_yes (record { fits = l; free = λ b. (in? b).0 }); marks = λ t b. (in? b).1 }

  -- a place that is marked already
  marking_twice : (seen ≡ 0 → ⊥) → Free (mark_at m₀) (at + n ≤ length m₀) (among (at, n)) → ⊥
  unfolding mark_at
  marking_twice ne f = ne (k.free (λ b l h. omega (arith, f.free b, among_in at n b l (omega arith))))

  -- whether none was
  pub marking_tells : Bits (mark_at m₀) → at + n ≤ length m₀ → Marked (nat_eq seen 0) (mark_at m₀) (at + n ≤ length m₀) (among (at, n)) (mark_at m)
  marking_tells h l =
      elim (ℕ_discrete seen 0) [
        | yes z ↦ rw (eq-eqb seen 0 z) (marking_done h l z)
        | no ne ↦ rw (ne_eqb seen 0 ne) (refused (marking_twice ne))
      ]

-- ── one after another ──
module _ {B : Type 0} {m m₁ : B → ℕ} {F : Type 0} {f : B → ℕ} {r : Bool} (a : Marked r m F f m₁) where
  pub then_bits : r ≡ true → Bits m₁
  unfolding Bits
  then_bits t b = let z = a.decides.yes t in omega (arith, a.marks t b, z.free b)

  pub then_no : (G : Type 0) (g : B → ℕ) {m₂ : B → ℕ} → r ≡ false → Marked false m (F × G) (λ b. f b + g b) m₂
  then_no G g e = refused (λ z. a.decides.no e (record { fits = z.fits.0; free = λ b. omega (arith, z.free b) }))

  pub then_on : {G : Type 0} {g m₂ : B → ℕ} {q : Bool} → r ≡ true → Marked q m₁ G g m₂ → Marked q m (F × G) (λ b. f b + g b) m₂
  then_on t c =
      let z = a.decides.yes t in
      record {
        decides = record {
          yes = λ e. let w = c.decides.yes e in record { fits = (z.fits, w.fits); free = λ b. omega (arith, w.free b, a.marks t b) };
          no = λ e w. c.decides.no e (record { fits = w.fits.1; free = λ b. omega (arith, w.free b, a.marks t b) });
        };
        marks = λ e b. omega (arith, c.marks e b, a.marks t b);
      }

  -- what must fit, and what is counted, may be said in another way
  pub marked_by : {G : Type 0} → (F → G) → (G → F) → (g : B → ℕ) → ((b : B) → g b ≡ f b) → Marked r m G g m₁
  marked_by x y g h =
      record {
        decides = record {
          yes = λ e. let z = a.decides.yes e in record { fits = x z.fits; free = λ b. omega (arith, z.free b, h b) };
          no = λ e w. a.decides.no e (record { fits = y w.fits; free = λ b. omega (arith, w.free b, h b) });
        };
        marks = λ e b. omega (arith, a.marks e b, h b);
      }

-- ── a loop that marks f 0, f 1, ..: after i of them ──
pub record MarksTo {B : Type 0} (m₀ : B → ℕ) (F : ℕ → Type 0) (f : ℕ → B → ℕ) (i : ℕ) (m : B → ℕ) : Type 0 where
  pub fits : (k : ℕ) → k < i → F k
  pub free : (b : B) → m₀ b + sum_to (λ k. f k b) i ≤ 1
  pub marks : (b : B) → m b ≡ m₀ b + sum_to (λ k. f k b) i

pub to_none : {B : Type 0} (m : B → ℕ) (F : ℕ → Type 0) (f : ℕ → B → ℕ) → Bits m → MarksTo m F f 0 m
unfolding Bits
to_none m F f h = record { fits = λ k l. absurd (omega arith); free = λ b. omega (arith, h b); marks = λ b. omega arith }

module _ {B : Type 0} {m₀ : B → ℕ} {F : ℕ → Type 0} {f : ℕ → B → ℕ} {i : ℕ} {m : B → ℕ} (k : MarksTo m₀ F f i m) where
  pub to_bits : Bits m
  unfolding Bits
  to_bits b = omega (arith, k.marks b, k.free b)

  pub to_more : {r : Bool} {m' : B → ℕ} → Marked r m (F i) (f i) m' → r ≡ true → MarksTo m₀ F f (i + 1) m'
  to_more a t =
      let z = a.decides.yes t in
      record {
        fits = below_more _ _ k.fits z.fits;
        free = λ b. rw add-one (omega (arith, z.free b, k.marks b));
        marks = λ b. rw add-one (a.marks t b ∙ omega (arith, k.marks b));
      }

  pub to_no : {r : Bool} {m' m'' : B → ℕ} (n : ℕ) → Marked r m (F i) (f i) m' → r ≡ false → i < n
      → Marked false m₀ ((j : ℕ) → j < n → F j) (λ b. sum_to (λ j. f j b) n) m''
  to_no n a t h =
      refused (λ z.
      a.decides.no t
      (record {
        fits = z.fits i h;
        free = λ b. omega (arith, z.free b, sum_mono (λ j. f j b) (suc i) n h, k.marks b);
      }))

  pub to_done : (n : ℕ) → i ≡ n → Marked true m₀ ((j : ℕ) → j < n → F j) (λ b. sum_to (λ j. f j b) n) m
  to_done n e = record {
    decides = is_yes (record { fits = rw e at k.fits; free = rw e at k.free });
    marks = λ t. rw e at k.marks;
  }
