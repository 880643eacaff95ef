-- The chunks of some rows of a table, and what it says of the rows that the chunks of the list cover the source once.
use mathlib.Core.Path.{◌≡◌, refl, ap, ◌∙◌, subst}
use mathlib.Core.List.{List, [], ◌∷◌, ◌++◌, map, map-append}
use Prim.Native.Nat.{ℕ, ◌≤◌, ◌<◌}
use native.Mathlib.Omega.{arith}
use lib.ListN.{length}
use Rattle.utf8.specs.Chars.{All, cons}
use Rattle.utf8.proofs.CharLaws.{all_back}
use Rattle.memory_table.specs.Ring.{Each}
use Rattle.memory_table.proofs.Ring.{each_map}
use Rattle.memory_table.specs.Order.{entry_at, order}
use Rattle.model.specs.Chunk.{Chunk, start_of}
use Rattle.model.specs.WellFormed.{covers}
use Rattle.model.proofs.Lists.{sum_append}
use Rattle.memory.specs.Layout.{chunk_of, magic_string_of}
use Rattle.model_closed_forms.specs.Spans.{Proper, Cover}
use Rattle.model_closed_forms.proofs.Spans.{Once, one_start}
use Rattle.model_closed_forms.proofs.SplitAt.{cover_once}
use Rattle.model_closed_forms.proofs.Steps.{cover_proper}
use Rattle.memory_list.specs.Swap.{last_of}
use Rattle.edit_relocate_range.specs.Range.{Follows}

abbrev pub chunks_of_rows : List ℕ → List ℕ → List ℕ → List ℕ → List Chunk
chunks_of_rows t p s xs = map (chunk_of p s) (map (entry_at t) xs)

module _ (t p s : List ℕ) where
  pub all_each : {P : Chunk → Type 0} (xs : List ℕ) → All P (chunks_of_rows t p s xs) → Each (λ x. P (chunk_of p s (entry_at t x))) xs
  all_each [] h = tt
  all_each (x ∷ xs) (cons h k) = (h, all_each xs k)

  pub chunks_append : (xs ys : List ℕ) → chunks_of_rows t p s (xs ++ ys) ≡ chunks_of_rows t p s xs ++ chunks_of_rows t p s ys
  chunks_append xs ys = ap (map (chunk_of p s)) (map-append (entry_at t) xs ys) ∙ map-append (chunk_of p s) (map (entry_at t) xs) (map (entry_at t) ys)

pub chunks_are : (source t p s : List ℕ) → (magic_string_of source t p s).chunks ≡ chunks_of_rows t p s (order t)
unfolding magic_string_of
chunks_are source t p s = refl

-- ── spans over a source that is not empty ──
module _ (source t p s : List ℕ) (v : Cover source (magic_string_of source t p s).chunks) (n : 0 < length source) where
  pub rows_once : Once (chunks_of_rows t p s (order t))
  rows_once = subst Once (chunks_are source t p s) (cover_once v)

  pub rows_proper : All Proper (chunks_of_rows t p s (order t))
  rows_proper = subst (All Proper) (chunks_are source t p s) (cover_proper v n)

-- each row has a byte or more
abbrev pub NoneEmpty : List ℕ → List ℕ → Type 0
NoneEmpty t xs = Each (λ x. (entry_at t x).start < (entry_at t x).end) xs

pub filled_rows : (t p s xs : List ℕ) → All Proper (chunks_of_rows t p s xs) → NoneEmpty t xs
filled_rows t p s xs h = all_each t p s {P = Proper} xs h

-- no other row behind n starts where n does
pub starts_once : (t p s vs : List ℕ) (n : ℕ) (bs : List ℕ) → Once (chunks_of_rows t p s (vs ++ n ∷ bs)) → All Proper (chunks_of_rows t p s (vs ++ n ∷ bs))
    → Each (λ x. (entry_at t x).start ≡ (entry_at t n).start → ⊥) bs
starts_once t p s vs n bs o h =
    let e = chunks_append t p s vs (n ∷ bs) in
    let c = chunk_of p s (entry_at t n) in
    let o' : Once (c ∷ chunks_of_rows t p s bs) = λ x. omega (arith, subst Once e o x, sum_append (covers x) (chunks_of_rows t p s vs) (c ∷ chunks_of_rows t p s bs)) in
    all_each t p s {P = λ d. start_of d ≡ start_of c → ⊥} bs
    (one_start c (chunks_of_rows t p s bs) o' (all_back Proper (chunks_of_rows t p s vs) (c ∷ chunks_of_rows t p s bs) (subst (All Proper) e h)))

-- ── the rows of a range start inside it ──
pub starts_inside : (t : List ℕ) (b f : ℕ) (xs : List ℕ) → NoneEmpty t (f ∷ xs) → Follows t b f xs
    → Each (λ x. ((entry_at t f).start ≤ (entry_at t x).start) × ((entry_at t x).start < (entry_at t (last_of f xs)).end)) (f ∷ xs)
starts_inside t b f [] p h = ((omega arith, p.0), tt)
starts_inside t b f (x ∷ xs) p h =
    let r = starts_inside t b x xs p.1 h.2 in
    let L = last_of x xs in (
      (omega arith, omega (arith, p.0, h.1, r.0.1)),
      each_map (λ y. ((entry_at t x).start ≤ (entry_at t y).start) × ((entry_at t y).start < (entry_at t L).end))
          (λ y. ((entry_at t f).start ≤ (entry_at t y).start) × ((entry_at t y).start < (entry_at t L).end)) (λ y k. (omega (arith, p.0, h.1, k.0), k.1)) (x ∷ xs) r,
    )
