-- A pass that marks and raises a bound: one part after another, and in a loop.
use mathlib.Core.Path.{◌≡◌, refl}
use mathlib.Core.Bool.{Bool, true, false}
use Prim.Native.Nat.{ℕ, ◌+◌, ◌<◌}
use native.Mathlib.Omega.{arith}
use borrow.Author.Count.{below_more}
use Rattle.memory_counting.specs.Counts.{sum_to}
use Rattle.memory_counting.proofs.Sums.{not_both}
use Rattle.check_marks.specs.Marks.{Bits, Free, Raised, Passed}
use Rattle.check_marks.proofs.Marking.{refused, marked_none, then_no, then_on, marked_by, MarksTo, to_none, to_more, to_no, to_done}

-- a bound that is not raised, and one raised twice
pub raised_none : {W : Type 0} {le : W → W → Type 0} {top : W} {E : W → Type 0} → ((w : W) → E w) → Raised le top E top
raised_none h = record { above = λ w l. (l, h w); least = λ w l e. l }

module _ {W : Type 0} {le : W → W → Type 0} {top top₁ : W} {E : W → Type 0} (a : Raised le top E top₁) where
  pub raised_on : {G : W → Type 0} {top₂ : W} → Raised le top₁ G top₂ → Raised le top (λ w. E w × G w) top₂
  raised_on b =
      record {
        above = λ w l. let y = b.above w l in let x = a.above w y.0 in (x.0, (x.1, y.1));
        least = λ w l e. b.least w (a.least w l e.0) e.1;
      }

  pub raised_by : {G : W → Type 0} → ((w : W) → E w → G w) → ((w : W) → G w → E w) → Raised le top G top₁
  raised_by x y = record { above = λ w l. let z = a.above w l in (z.0, x w z.1); least = λ w l g. a.least w l (y w g) }

-- a refusal
pub stopped : {B W : Type 0} {le : W → W → Type 0} {size top top' : W} {E : W → Type 0} {m f m' : B → ℕ}
    → (Free m (E size) f → ⊥) → Passed false le size m top E f m' top'
stopped x = record { marked = refused x; raised = λ e. not_both e }

-- one whose answer says nothing more
pub stopped_as : {B W : Type 0} {le : W → W → Type 0} {size top t t' : W} {E : W → Type 0} {m f m₁ m' : B → ℕ}
    → Passed false le size m top E f m₁ t → Passed false le size m top E f m' t'
stopped_as a = stopped (a.marked.decides.no refl)

-- nothing to mark, and nothing to see
pub pass_none : {B W : Type 0} {le : W → W → Type 0} {size top : W} {E : W → Type 0} {m f : B → ℕ}
    → Bits m → ((w : W) → E w) → ((b : B) → f b ≡ 0) → Passed true le size m top E f m top
pass_none {size = size} h x z = record { marked = marked_none h (x size) z; raised = λ t. raised_none x }

-- ── one after another ──
module _ {B W : Type 0} {le : W → W → Type 0} {size top top₁ : W} {E : W → Type 0} {m f m₁ : B → ℕ} {r : Bool} (a : Passed r le size m top E f m₁ top₁) where
  pub pass_on : {G : W → Type 0} {g m₂ : B → ℕ} {top₂ : W} {q : Bool} → r ≡ true → Passed q le size m₁ top₁ G g m₂ top₂
      → Passed q le size m top (λ w. E w × G w) (λ b. f b + g b) m₂ top₂
  pass_on t c = record { marked = then_on a.marked t c.marked; raised = λ e. raised_on (a.raised t) (c.raised e) }

  pub pass_no : (G : W → Type 0) (g : B → ℕ) {m₂ : B → ℕ} {top₂ : W} → r ≡ false
      → Passed false le size m top (λ w. E w × G w) (λ b. f b + g b) m₂ top₂
  pass_no G g e = record { marked = then_no a.marked (G size) g e; raised = λ t. not_both t }

  -- what must lie below, and what is counted, may be said in another way
  pub pass_by : {G : W → Type 0} → ((w : W) → E w → G w) → ((w : W) → G w → E w) → (g : B → ℕ) → ((b : B) → g b ≡ f b)
      → Passed r le size m top G g m₁ top₁
  pass_by x y g h = record { marked = marked_by a.marked (x size) (y size) g h; raised = λ e. raised_by (a.raised e) x y }

-- ── a loop: after i turns ──
pub record PassesTo {B W : Type 0} (le : W → W → Type 0) (size : W) (m₀ : B → ℕ) (top₀ : W) (E : ℕ → W → Type 0) (f : ℕ → B → ℕ) (i : ℕ) (m : B → ℕ) (top : W) : Type 0 where
  pub marks : MarksTo m₀ (λ k. E k size) f i m
  pub raised : Raised le top₀ (λ w. (k : ℕ) → k < i → E k w) top

pub passes_none : {B W : Type 0} {le : W → W → Type 0} {size top : W} {m : B → ℕ} (E : ℕ → W → Type 0) (f : ℕ → B → ℕ)
    → Bits m → PassesTo le size m top E f 0 m top
passes_none {size = size} {m = m} E f h =
    record { marks = to_none m (λ k. E k size) f h; raised = raised_none (λ w k l. absurd (omega arith)) }

module _ {B W : Type 0} {le : W → W → Type 0} {size top₀ top : W} {E : ℕ → W → Type 0} {f : ℕ → B → ℕ} {m₀ : B → ℕ} {i : ℕ} {m : B → ℕ}
    (k : PassesTo le size m₀ top₀ E f i m top) where
  pub passes_more : {r : Bool} {m' : B → ℕ} {top' : W} → Passed r le size m top (E i) (f i) m' top' → r ≡ true
      → PassesTo le size m₀ top₀ E f (i + 1) m' top'
  passes_more a t =
      let b = a.raised t in
      record {
        marks = to_more k.marks a.marked t;
        raised = record {
          above = λ w l. let y = b.above w l in let x = k.raised.above w y.0 in (x.0, below_more _ i x.1 y.1);
          least = λ w l e. b.least w (k.raised.least w l (λ j h. e j (omega arith))) (e i (omega arith));
        };
      }

  pub passes_no : {r : Bool} {m' m'' : B → ℕ} {top' top'' : W} (n : ℕ) → Passed r le size m top (E i) (f i) m' top' → r ≡ false → i < n
      → Passed false le size m₀ top₀ (λ w. (j : ℕ) → j < n → E j w) (λ b. sum_to (λ j. f j b) n) m'' top''
  passes_no n a t h = record { marked = to_no k.marks n a.marked t h; raised = λ e. not_both e }

  pub passes_done : (n : ℕ) → i ≡ n → Passed true le size m₀ top₀ (λ w. (j : ℕ) → j < n → E j w) (λ b. sum_to (λ j. f j b) n) m top
  passes_done n e = record { marked = to_done k.marks n e; raised = λ t. rw e at k.raised }
