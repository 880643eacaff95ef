-- Rows that are joined make one list, and their spans cover the source: from every row the spans ascend to the source's end, so every row stands in the list that begins at row 0.
use mathlib.Core.Path.{◌≡◌, refl, ap, sym, subst, ◌∙◌}
use mathlib.Core.Bool.{true}
use mathlib.Core.List.{List, [], ◌∷◌}
use Prim.Native.Nat.{ℕ, zero, suc, ◌+◌, ◌-◌, ◌≤◌, ◌<◌}
use native.Mathlib.Omega.{arith}
use native.Mathlib.Decide.{ℕ_discrete}
use lib.ListN.{length}
use Rattle.utf8.specs.Rfc3629.{between}
use Rattle.utf8.specs.Chars.{All, nil, cons}
use Rattle.memory_table.specs.Ring.{Each, Edge, Links}
use Rattle.memory_table.proofs.Ring.{ring_of}
use Rattle.memory_table.specs.Order.{next_of, prev_of}
use Rattle.model.specs.Text.{sum}
use Rattle.memory.specs.WellFormed.{times}
use Rattle.memory_counting.specs.Counts.{indicator}
use Rattle.memory_counting.proofs.Sums.{one_at, one_other, indicator_in, indicator_before}
use Rattle.memory_counting.specs.Once.{In}
use Rattle.memory_counting.proofs.Once.{Once, times_nil, times_cons, twice, sum_once, once_all}
use Rattle.check_spans.specs.Spans.{start_of, end_of, chunk_starts_of, ends_of, Listed}
use Rattle.check_spans.proofs.Spans.{indicator_join, sum_ones_is}
use Rattle.check_in_order.specs.Joined.{Joined}

-- ── rows of a list ──
module _ (nx pv : ℕ → ℕ) where
  -- the row before one of the list is i, from which it begins, or stands in it; so does the last one
  pub row_before : (i : ℕ) (xs : List ℕ) (x : ℕ) → Links (Edge nx pv) i xs 0 → 0 < times x xs → (pv x ≡ i → ⊥) → 0 < times (pv x) xs
  row_before i [] x l h ne = absurd (omega (arith, times_nil x))
  row_before i (y ∷ ys) x l h ne =
      elim (ℕ_discrete y x) [
        | yes e ↦ absurd (ne (ap pv (sym e) ∙ l.0.bwd))
        | no e ↦ elim (ℕ_discrete y (pv x)) [
          | yes q ↦ omega (arith, times_cons (pv x) y ys, one_at y (pv x) q)
          | no q ↦ omega (arith, times_cons (pv x) y ys, row_before y ys x l.1 (omega (arith, times_cons x y ys, one_other y x e)) (λ z. q (sym z)))
        ]
      ]

  pub row_last : (i : ℕ) (xs : List ℕ) → Links (Edge nx pv) i xs 0 → (pv 0 ≡ i → ⊥) → 0 < times (pv 0) xs
  row_last i [] l ne = absurd (ne l.bwd)
  row_last i (y ∷ ys) l ne =
      elim (ℕ_discrete y (pv 0)) [
        | yes q ↦ omega (arith, times_cons (pv 0) y ys, one_at y (pv 0) q)
        | no q ↦ omega (arith, times_cons (pv 0) y ys, row_last y ys l.1 (λ z. q (sym z)))
      ]

-- as many as the numbers that it has
sum_length : (xs : List ℕ) → sum (λ i. 1) xs ≡ length xs
sum_length [] = refl
sum_length (x ∷ xs) = omega (arith, sum_length xs)

once_length : {n : ℕ} {xs : List ℕ} → Once n xs → length xs ≡ n
once_length {n} {xs} o = sym (sum_length xs) ∙ sum_once o (λ i. 1) ∙ sum_ones_is n

-- where the span of row i ends; row 0, from which the list begins, ends at 0
abbrev pub end_at : List ℕ → ℕ → ℕ
end_at t zero = 0
end_at t (suc i) = end_of t (suc i)

pub end_is : (t : List ℕ) (i : ℕ) → 0 < i → end_at t i ≡ end_of t i
end_is t zero h = absurd (omega arith)
end_is t (suc i) h = refl

-- ── all rows are joined ──
-- from row i the links lead to 0
record Chain (t : List ℕ) (n i : ℕ) : Type 0 where
  rows : List ℕ
  links : Links (Edge (next_of t) (prev_of t)) i rows 0
  inside : Each (In n) rows

module _ {source t : List ℕ} {n : ℕ} (joined : (i : ℕ) → i ≤ n → Joined source t n i (end_at t i)) (filled : (k : ℕ) → k < n → chunk_starts_of t k < ends_of t k) where
  filled_at : (i : ℕ) → In n i → start_of t i < end_of t i
  filled_at i h = let q : i - 1 + 1 ≡ i = omega arith in subst (λ (x : ℕ). start_of t x < end_of t x) q (filled (i - 1) (omega arith))

  -- the row behind i
  behind : (i : ℕ) → i ≤ n → (next_of t i ≡ 0 → ⊥) → In n (next_of t i) × (end_at t i < end_of t (next_of t i)) × (end_of t (next_of t i) ≤ length source)
  behind i h ne =
      let j = joined i h in
      let x : In n (next_of t i) = (omega arith, j.near) in
      (x, omega (arith, j.start ne, filled_at (next_of t i) x), omega (arith, (joined (next_of t i) j.near).inside, end_is t (next_of t i) x.0))

  ended : (i : ℕ) → i ≤ n → next_of t i ≡ 0 → Chain t n i
  ended i h z = record { rows = []; links = record { fwd = z; bwd = ap (prev_of t) (sym z) ∙ (joined i h).back }; inside = tt }

  chain : (steps i : ℕ) → i ≤ n → length source ≤ end_at t i + steps → Chain t n i
  chain zero i h l = elim (ℕ_discrete (next_of t i) 0) [ yes z ↦ ended i h z | no z ↦ absurd (omega (arith, behind i h z)) ]
  chain (suc steps) i h l =
      elim (ℕ_discrete (next_of t i) 0) [
        | yes z ↦ ended i h z
        | no z ↦
            let b = behind i h z in
            let c = chain steps (next_of t i) b.0.1 (omega (arith, end_is t (next_of t i) b.0.0)) in
            record { rows = next_of t i ∷ c.rows; links = (record { fwd = refl; bwd = (joined i h).back }, c.links); inside = (b.0, c.inside) }
      ]

  -- every row stands in a list from 0 on: the row behind it does, or it is the last one
  stands_last : (xs : List ℕ) → Links (Edge (next_of t) (prev_of t)) 0 xs 0 → (i : ℕ) → In n i → next_of t i ≡ 0 → 0 < times i xs
  stands_last xs l i h z =
      let p : prev_of t 0 ≡ i = ap (prev_of t) (sym z) ∙ (joined i h.1).back in
      rw p at (row_last (next_of t) (prev_of t) 0 xs l (λ e. omega (arith, h.0)))

  stands : (xs : List ℕ) → Links (Edge (next_of t) (prev_of t)) 0 xs 0 → (steps i : ℕ) → In n i → length source ≤ end_of t i + steps → 0 < times i xs
  stands xs l zero i h s =
      elim (ℕ_discrete (next_of t i) 0) [
        | yes z ↦ stands_last xs l i h z
        | no z ↦ absurd (omega (arith, behind i h.1 z, end_is t i h.0))
      ]
  stands xs l (suc steps) i h s =
      elim (ℕ_discrete (next_of t i) 0) [
        | yes z ↦ stands_last xs l i h z
        | no z ↦
            let b = behind i h.1 z in
            let r = stands xs l steps (next_of t i) b.0 (omega (arith, end_is t i h.0)) in
            let back = (joined i h.1).back in
            rw back at (row_before (next_of t) (prev_of t) 0 xs (next_of t i) l r (λ e. omega (arith, h.0)))
      ]

  start_is : (i x : ℕ) → i ≤ n → next_of t i ≡ x → In n x → start_of t x ≡ end_at t i
  start_is i x h f p = rw f at ((joined i h).start (λ z. omega arith))

  inside_is : (i : ℕ) → In n i → end_of t i ≤ length source
  inside_is i h = omega (arith, (joined i h.1).inside, end_is t i h.0)

  -- the spans of the rows behind i hold what lies between its end and the source's end, each byte once
  holds : (b : ℕ) → b < length source → (i : ℕ) (xs : List ℕ) → i ≤ n → Links (Edge (next_of t) (prev_of t)) i xs 0 → Each (In n) xs
      → sum (λ x. indicator (start_of t x) (end_of t x) b) xs ≡ indicator (end_at t i) (length source) b
  holds b k i [] h l e = rw ((joined i h).last l.fwd) (sym (indicator_before (length source) (length source) b k))
  holds b k i (x ∷ xs) h l e =
      let s = start_is i x h l.0.fwd e.0 in
      let u = ap (λ (a : ℕ). indicator a (end_of t x) b) s in
      let v = ap (λ (a : ℕ). indicator a (length source) b) (end_is t x e.0.0) in
      let j = indicator_join (end_at t i) (end_of t x) (length source) b (omega (arith, filled_at x e.0)) (inside_is x e.0) in
      omega (arith, holds b k x xs e.0.1 l.1 e.1)

  -- and each starts between characters
  starts_between : (i : ℕ) (xs : List ℕ) → i ≤ n → Links (Edge (next_of t) (prev_of t)) i xs 0 → Each (In n) xs → All (λ x. between source (start_of t x) ≡ true) xs
  starts_between i [] h l e = nil
  starts_between i (x ∷ xs) h l e =
      let a : between source (start_of t x) ≡ true = rw (start_is i x h l.0.fwd e.0) (joined i h).edge in
      cons {x = x} a (starts_between x xs e.0.1 l.1 e.1)

  pub joined_listed : 0 < length source → Listed source t n
  joined_listed pos =
      let c = chain (length source) 0 (omega arith) (omega arith) in
      let o : Once n c.rows =
      record {
        inside = c.inside;
        each = λ i p h. omega (arith, twice (next_of t) (prev_of t) n 0 c.rows c.links c.inside i, stands c.rows c.links (length source) i (p, h) (omega arith));
      } in
      record {
        ring = (ring_of (next_of t) (prev_of t) n c.rows (once_length o) c.links c.inside).1;
        spans = record {
          empty = λ z. absurd (omega arith);
          full = λ p. record {
            filled = filled;
            inside = λ k h. inside_is (k + 1) (omega arith, omega arith);
            cover = λ b h. sym (sum_once o (λ i. indicator (start_of t i) (end_of t i) b)) ∙ holds b h 0 c.rows (omega arith) c.links c.inside
                ∙ indicator_in 0 (length source) b (omega arith) h;
          };
        };
        edges = λ k h. record {
          start = once_all o (starts_between 0 c.rows (omega arith) c.links c.inside) k h;
          end = rw (← end_is t (k + 1) (omega arith)) (joined (k + 1) (omega arith)).edge;
        };
      }
