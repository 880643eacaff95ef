-- Laws of what `Uses` in specs/ defines.
use mathlib.Core.Path.{◌≡◌, ap, ◌∙◌}
use mathlib.Core.List.{List}
use Prim.Native.Nat.{ℕ, zero, suc, ◌+◌, ◌-◌, ◌≤◌, ◌<◌}
use native.Mathlib.Omega.{arith}
use native.Mathlib.Decide.{ℕ_discrete, dec_le, dec_lt}
use mathlib.Core.Bool.{Bool}
use borrow.Author.Tests.{eq-eqb, ne_eqb}
use Rattle.memory_table.specs.Order.{Entry}
use Rattle.memory_layout.specs.Layout.{NONE}
use Rattle.memory.specs.Layout.{Place, piece_at}
use Rattle.memory.specs.WellFormed.{among, piece_uses, run_uses, replacement_uses, list_uses, byte_uses}
use Rattle.memory_used.specs.Below.{Below}
use Rattle.memory_counting.specs.Counts.{sum_to}
use Rattle.memory_counting.proofs.Sums.{sum_zero, sum_same, sum_le, sum_mono}
use Rattle.memory_counting.proofs.Lists.{sum_tabulate}
use Rattle.memory.proofs.Desks.{among_in, among_out, among_none}
use Rattle.memory_texts.specs.Low.{RowsKept, TextLow, RunsLow, EntryLow}
use Rattle.trim_run.specs.Run.{Within, RunTrimmed}
use Rattle.trim_chunk.specs.Uses.{NoMore, RowApart}

-- ---- places

-- inside, or not
either : {A : Type 0} (r : Place) (b : ℕ) → (r.0 ≤ b → b < r.0 + r.1 → among r b ≡ 1 → A) → (among r b ≡ 0 → A) → A
either r b f g =
    elim (dec_le r.0 b) [
      | yes u ↦ elim (dec_lt b (r.0 + r.1)) [
        | yes v ↦ f u v (among_in r.0 r.1 b u v)
        | no v ↦ g (among_out r.0 r.1 b (λ x y. v y))
      ]
      | no u ↦ g (among_out r.0 r.1 b (λ x y. u x))
    ]

pub among_most : (r : Place) (b : ℕ) → among r b ≤ 1
among_most r b = either r b (λ u v e. omega arith) (λ e. omega arith)

among_within : (a r : Place) (b : ℕ) → Within a r → among a b ≤ among r b
among_within a r b w = either a b (λ u v e. omega (arith, among_in r.0 r.1 b (omega (arith, w.first)) (omega (arith, w.last)))) (λ e. omega arith)

-- ---- replacements

no_text : (b : ℕ) (x : Place) → x.0 ≡ NONE → replacement_uses b x ≡ 0
unfolding replacement_uses
no_text b x n = rw (eq-eqb x.0 NONE n)

some_text : (b : ℕ) (x : Place) → (x.0 ≡ NONE → ⊥) → replacement_uses b x ≡ among x b
unfolding replacement_uses
some_text b x n = rw (ne_eqb x.0 NONE n)

module _ (b : ℕ) (x : Place) where
  text_most : replacement_uses b x ≤ 1
  text_most = elim (ℕ_discrete x.0 NONE) [ yes n ↦ omega (arith, no_text b x n) | no n ↦ omega (arith, some_text b x n, among_most x b) ]

  -- above it
  text_above : (byte : ℕ) → TextLow byte x → byte ≤ b → replacement_uses b x ≡ 0
  text_above byte l h =
      elim (ℕ_discrete x.0 NONE) [
        | yes n ↦ no_text b x n
        | no n ↦ some_text b x n ∙ among_out x.0 x.1 b (λ u v. omega (arith, l n))
      ]

  -- before it
  pub text_before : b < x.0 → replacement_uses b x ≡ 0
  text_before h = elim (ℕ_discrete x.0 NONE) [ yes n ↦ no_text b x n | no n ↦ some_text b x n ∙ among_out x.0 x.1 b (λ u v. omega arith) ]

  pub text_within : (r : Place) → (r.0 ≡ NONE → ⊥) → Within x r → replacement_uses b x ≤ replacement_uses b r
  text_within r m w =
      elim (ℕ_discrete x.0 NONE) [
        | yes n ↦ omega (arith, no_text b x n)
        | no n ↦ omega (arith, some_text b x n, some_text b r m, among_within x r b w)
      ]

-- an empty one uses nothing
pub text_empty : (b at : ℕ) → replacement_uses b (at, 0) ≡ 0
text_empty b at = elim (ℕ_discrete at NONE) [ yes n ↦ no_text b (at, 0) n | no n ↦ some_text b (at, 0) n ∙ among_none at b ]

-- ---- runs

run_sum : (p : List ℕ) (b : ℕ) (r : Place) → run_uses p b r ≡ sum_to (λ k. among (piece_at p (r.0 + k)) b) r.1
unfolding run_uses
run_sum p b r = sum_tabulate (λ x. among x b) (λ k. piece_at p (r.0 + k)) r.1

module _ (p : List ℕ) (top byte : ℕ) (r : Place) (h : Below p byte top r) where
  pub rows_above : (j : ℕ) → top ≤ j → among r j ≡ 0
  rows_above j l = among_out r.0 r.1 j (λ u v. omega (arith, (h (j - r.0) (omega arith)).0))

  pub bytes_above : (b : ℕ) → byte ≤ b → run_uses p b r ≡ 0
  bytes_above b l =
      run_sum p b r
      ∙ sum_zero (λ k. among (piece_at p (r.0 + k)) b) r.1
      (λ k g. let q = piece_at p (r.0 + k) in among_out q.0 q.1 b (λ u v. omega (arith, (h k g).1)))

-- the terms from a on
sum_tail : (f : ℕ → ℕ) (a m : ℕ) → sum_to (λ k. f (a + k)) m ≤ sum_to f (a + m)
sum_tail f a zero = omega arith
sum_tail f a (suc m) = let e : a + suc m ≡ suc (a + m) = omega arith in rw e (omega (arith, sum_tail f a m))

module _ (p p' : List ℕ) (top : ℕ) where
  -- an empty one
  pub no_more_none : (n r : Place) → n.1 ≡ 0 → NoMore p p' top n r
  no_more_none n r e =
      record {
        rows = λ j h. omega (arith, among_out n.0 n.1 j (λ u v. omega arith));
        bytes = λ b. omega (arith, run_sum p' b n ∙ ap (sum_to (λ k. among (piece_at p' (n.0 + k)) b)) e);
      }

  -- the same, below what was written
  pub no_more_same : (byte : ℕ) (r : Place) → RowsKept top p p' → Below p byte top r → NoMore p p' top r r
  no_more_same byte r k h =
      record {
        rows = λ j g. omega arith;
        bytes = λ b.
            omega (
              arith,
              run_sum p b r,
              run_sum p' b r,
              sum_same (λ i. among (piece_at p' (r.0 + i)) b) (λ i. among (piece_at p (r.0 + i)) b) r.1 (λ i g. ap (λ (x : Place). among x b) (k.rows (r.0 + i) (h i g).0)),
            );
      }

  -- what a trim left of it
  pub no_more_trimmed : (front : Bool) (pattern : ℕ) (s : List ℕ) (r n : Place) → RunTrimmed front pattern p s r.0 r.1 top p' n → NoMore p p' top n r
  no_more_trimmed front pattern s r n d =
      record {
        rows = λ j h. omega (arith, among_out n.0 n.1 j (λ u v. omega (arith, d.place)));
        bytes = λ b.
            let f : ℕ → ℕ = λ k. among (piece_at p (r.0 + k)) b in
            let g : ℕ → ℕ = λ k. among (piece_at p' (n.0 + k)) b in
            let a : sum_to g n.1 ≤ sum_to (λ k. f (d.out + k)) n.1 =
            sum_le g (λ k. f (d.out + k)) n.1
            (λ k i.
            let x : r.0 + d.out + k ≡ r.0 + (d.out + k) = omega arith in
            rw d.place (among_within (piece_at p' (top + k)) (piece_at p (r.0 + (d.out + k))) b (rw x at (d.part k i)))) in
            omega (arith, run_sum p b r, run_sum p' b n, a, sum_tail f d.out n.1, sum_mono f (d.out + n.1) r.1 d.inside);
      }

-- ---- rows

-- no more
pub record Fewer (p p' : List ℕ) (e e' : Entry) : Type 0 where
  pub rows : (j : ℕ) → piece_uses j e' ≤ piece_uses j e
  pub bytes : (b : ℕ) → byte_uses p' b e' ≤ byte_uses p b e

module _ (p : List ℕ) (top byte : ℕ) (e : Entry) (h : RunsLow p top byte e) where
  pub row_above : (j : ℕ) → top ≤ j → piece_uses j e ≡ 0
  row_above j l = omega (arith, rows_above p top byte e.intro h.intro j l, rows_above p top byte e.outro h.outro j l)

  pub lists_above : (b : ℕ) → byte ≤ b → list_uses p b e ≡ 0
  lists_above b l = omega (arith, bytes_above p top byte e.intro h.intro b l, bytes_above p top byte e.outro h.outro b l)

  -- the row with other runs and another replacement
  pub row_apart : (p' : List ℕ) (e' : Entry) → NoMore p p' top e'.intro e.intro → NoMore p p' top e'.outro e.outro → ((j : ℕ) → top ≤ j → piece_uses j e' ≤ 1)
      → ((b : ℕ) → b < byte → replacement_uses b e'.text ≤ replacement_uses b e.text) → RowApart p p' top byte e e'
  row_apart p' e' i o a x =
      record {
        rows_below = λ j l. omega (arith, i.rows j l, o.rows j l);
        rows_above = a;
        bytes_below = λ b l. omega (arith, i.bytes b, o.bytes b, x b l);
        bytes_above = λ b l. omega (arith, i.bytes b, o.bytes b, lists_above b l, text_most b e'.text);
      }

pub bytes_none : (p : List ℕ) (top byte : ℕ) (e : Entry) → EntryLow p top byte e → (b : ℕ) → byte ≤ b → byte_uses p b e ≡ 0
bytes_none p top byte e h b l = omega (arith, lists_above p top byte e h.runs b l, text_above b e.text byte h.text l)

-- a row below what was written
pub same_fewer : (p p' : List ℕ) (top byte : ℕ) (e : Entry) → RowsKept top p p' → RunsLow p top byte e → Fewer p p' e e
same_fewer p p' top byte e k h =
    record {
      rows = λ j. omega arith;
      bytes = λ b. omega (arith, (no_more_same p p' top byte e.intro k h.intro).bytes b, (no_more_same p p' top byte e.outro k h.outro).bytes b);
    }
