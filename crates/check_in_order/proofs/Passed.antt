-- The pass over the rows in the order of their numbers.
use mathlib.Core.Path.{◌≡◌}
use mathlib.Core.List.{List}
use Prim.Native.Nat.{ℕ, ◌+◌, ◌≤◌, ◌<◌}
use native.Mathlib.Omega.{arith}
use lib.ListN.{length}
use borrow.Author.Count.{below_more}
use Rattle.check_spans.specs.Spans.{chunk_starts_of, ends_of, Listed}
use Rattle.check_in_order.specs.Joined.{Joined}
use Rattle.check_in_order.proofs.Chain.{end_at, joined_listed}

-- the rows before i are joined, the spans of rows 1 to i are not empty, and row i ends at e
pub record Passed (source t : List ℕ) (n i e : ℕ) : Type 0 where
  pub near : i ≤ n
  pub end : e ≡ end_at t i
  pub joined : (k : ℕ) → k < i → Joined source t n k (end_at t k)
  pub filled : (k : ℕ) → k < i → chunk_starts_of t k < ends_of t k

module _ {source t : List ℕ} {n i e : ℕ} (p : Passed source t n i e) (j : Joined source t n i e) where
  joined_to : (k : ℕ) → k < i + 1 → Joined source t n k (end_at t k)
  joined_to = below_more _ _ p.joined (rw p.end at j)

pub passed_all : {source t : List ℕ} {n i e : ℕ} → Passed source t n i e → Joined source t n n e → n ≤ i → 0 < length source → Listed source t n
passed_all {source} {t} {n} {i} {e} p j h pos =
    let q : i ≡ n = omega (arith, p.near) in
    let j' : Joined source t n i e = rw q j in
    joined_listed (λ k l. joined_to p j' k (omega arith)) (λ k l. p.filled k (omega arith)) pos
