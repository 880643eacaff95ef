-- A list that holds each byte of the source once is one whose spans cover it.
use mathlib.Core.Path.{◌≡◌, sym, ◌∙◌}
use mathlib.Core.Bool.{Bool, true}
use mathlib.Core.List.{List}
use Prim.Native.Nat.{ℕ, ◌+◌, ◌<◌}
use native.Mathlib.Omega.{arith}
use native.Mathlib.Decide.{dec_lt}
use lib.ListN.{length}
use Rattle.utf8.specs.Rfc3629.{utf8}
use Rattle.utf8.proofs.Boundaries.{between_past}
use Rattle.utf8.specs.Chars.{All}
use Rattle.memory_table.specs.Ring.{follow}
use Rattle.memory_table.proofs.Ring.{length_follow, ring_of}
use Rattle.memory_table.specs.Order.{next_of, prev_of}
use Rattle.model.specs.Text.{sum}
use Rattle.model.proofs.Lists.{all_map, sum_same as sum-same-list}
use Rattle.memory_counting.specs.Counts.{Decides, indicator, sum_to}
use Rattle.memory_counting.proofs.Sums.{decides_by, sum_zero, sum_same, sum_tight, sum_indicator, indicator_after}
use Rattle.memory_counting.proofs.Lists.{sum_swap}
use Rattle.memory_counting.proofs.Once.{Once, sum_once, all_once, once_all, ring_once}
use Rattle.check_spans.specs.Spans.{start_of, end_of, chunk_starts_of, ends_of, Listed}
use Rattle.check_spans.proofs.Spans.{sum_ones_is}
use Rattle.check_row.specs.Row.{Proper}
use Rattle.check_links.specs.Walk.{Alone}
use Rattle.check_links.proofs.Rest.{holds, size_of, Whole}

-- how many bytes the spans of rows have, byte by byte of the source
sizes : {source t : List ℕ} {xs : List ℕ} → All (Proper source t) xs → sum (size_of t) xs ≡ sum_to (λ b. sum (λ x. holds t x b) xs) (length source)
sizes {source} {t} {xs} p =
    sum-same-list (size_of t) (λ x. sum_to (holds t x) (length source))
    (all_map (λ x (q : Proper source t x). omega (arith, q.filled, q.inside, sum_indicator (start_of t x) (end_of t x) (length source) (omega (arith, q.filled)))) p)
    ∙ sum_swap (holds t) xs (length source)

module _ {source t : List ℕ} {n : ℕ} (pos : 0 < length source) where
  whole_listed : Whole source t n → Listed source t n
  whole_listed r =
      let z = r.between in
      let xs = r.rows in
      let f = ring_of (next_of t) (prev_of t) n xs r.count z.links z.inside in
      let o : Once n xs = rw f.0 at (ring_once (next_of t) (prev_of t) n f.1) in
      let proper : (k : ℕ) → k < n → Proper source t (k + 1) = once_all o z.proper in
      record {
        ring = f.1;
        spans = record {
          empty = λ q. absurd (omega arith);
          full = λ q. record {
            filled = λ k h. (proper k h).filled;
            inside = λ k h. (proper k h).inside;
            cover = λ b h. sym (sum_once o (λ i. holds t i b))
                ∙ sum_tight (λ b. sum (λ x. holds t x b) xs) (λ b. 1) (length source) (λ c l. omega (arith, z.once c)) (omega (arith, sum_ones_is (length source), sizes z.proper, z.size)) b h;
          };
        };
        edges = λ k h. (proper k h).edged;
      }

  listed_whole : Listed source t n → Whole source t n
  listed_whole l =
      let xs = follow (next_of t) n (next_of t 0) in
      let o : Once n xs = ring_once (next_of t) (prev_of t) n l.ring in
      let d = l.spans.full pos in
      let proper : All (Proper source t) xs = all_once o (λ k h. record { filled = d.filled k h; inside = d.inside k h; edged = l.edges k h }) in
      let once : (b : ℕ) → b < length source → sum (λ x. holds t x b) xs ≡ 1 = λ b h. sum_once o (λ i. holds t i b) ∙ d.cover b h in
      record {
        rows = xs;
        count = length_follow (next_of t) n (next_of t 0);
        between = record {
          links = l.ring.links;
          inside = l.ring.inside;
          proper = proper;
          once = λ b. elim (dec_lt b (length source)) [
            | yes h ↦ omega (arith, once b h)
            | no h ↦ omega (
              arith,
              sum_once o (λ i. holds t i b),
              sum_zero (λ k. indicator (chunk_starts_of t k) (ends_of t k) b) n (λ k g. indicator_after (chunk_starts_of t k) (ends_of t k) b (omega (arith, d.inside k g))),
            )
          ];
          size = omega (arith, sizes proper, sum_same (λ b. sum (λ x. holds t x b) xs) (λ b. 1) (length source) once, sum_ones_is (length source));
        };
      }

  pub whole_decided : {r : Bool} → Decides r (Whole source t n) → Decides r (Listed source t n)
  whole_decided d = decides_by whole_listed listed_whole d

-- ── an empty source ──
module _ (t : List ℕ) (n : ℕ) where
  pub alone_decided : {r : Bool} (source : List ℕ) → utf8 source ≡ true → length source ≡ 0 → Decides r (Alone t n) → Decides r (Listed source t n)
  alone_decided source u z d =
      decides_by
      (λ a. record {
        ring = a.ring;
        spans = record { empty = λ q. a.span; full = λ p. absurd (omega arith) };
        edges = λ k h. record { start = between_past source (chunk_starts_of t k) u (omega arith); end = between_past source (ends_of t k) u (omega arith) };
      })
      (λ l. record { span = l.spans.empty z; ring = l.ring }) d
