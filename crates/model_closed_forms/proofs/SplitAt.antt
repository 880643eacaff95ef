-- Laws of what `SplitAt` in specs/ defines.
use Prim.Native.Nat.{ℕ, ◌+◌, ◌-◌, ◌≤◌, ◌<◌}
use native.Mathlib.Omega.{arith}
use native.Mathlib.Decide.{ℕ_discrete}
use mathlib.Core.Path.{◌≡◌, refl, ap, ◌∙◌}
use mathlib.Core.Bool.{Bool, true, false, ◌&&◌, ◌||◌, not, cond}
use mathlib.Core.List.{List, [], ◌∷◌}
use mathlib.Core.Logic.{◌⊎◌, inl, inr}
use lib.Dec.{leb, eqb}
use lib.ListN.{length}
use borrow.Author.Tests.{leb-true, eqb-true, ne_eqb}
use Rattle.utf8.specs.Chars.{All, nil, cons}
use Rattle.model.specs.Text.{Text, all, sum, is_some}
use Rattle.model.specs.Chunk.{Texts, Chunk, chunk_from, end_of, is_filled}
use Rattle.model.specs.MagicString.{MagicString, Result, ok, err, and_then, with_chunks, by_end, holder, split_holder, refuses_split, split_at}
use Rattle.model.specs.WellFormed.{covers}
use Rattle.model.proofs.Lists.{or_cases, bool_cases, clash, all_of, all_map, true_all}
use Rattle.model.proofs.Spans.{covers_in, covers_out}
use Rattle.model_closed_forms.specs.Plan.{Plan, cut, cut_all, splittable, cuttable, cut_until_refused, cuts, apply, in_order, order_number, left_over, ends_past, frozen_in, closed_plan}
use Rattle.model_closed_forms.proofs.Cuts.{Contains, dec_contains, contains_true, contains_false, split_in, split_out, cut_none, splittable_true}
use Rattle.model_closed_forms.specs.Spans.{Proper, Cover, empty, tiled}
use Rattle.model_closed_forms.proofs.Spans.{none_cover, Once, once_rest, tiling_once, tiling_cut}
use Rattle.model_closed_forms.specs.SplitAt.{cuts_then}

-- ── the spans of any desk ──
empty_once : (z : Bool) (t : Texts) → Once (chunk_from 0 0 z t ∷ [])
empty_once z t x = omega (arith, covers_out x (chunk_from 0 0 z t) (λ i. omega arith))

pub cover_once : {s : Text} {cs : List Chunk} → Cover s cs → Once cs
cover_once (empty z t) = empty_once z t
cover_once (tiled l t) = tiling_once t

empty_aligned : (p : ℕ) (z : Bool) (t : Texts) → All (λ c. Contains p c → ⊥) (chunk_from 0 0 z t ∷ [])
empty_aligned p z t = let n : Contains p (chunk_from 0 0 z t) → ⊥ = λ i. omega arith in cons n nil

pub cover_cut : {s : Text} {cs : List Chunk} (p : ℕ) → Cover s cs → Cover s (cut p cs)
cover_cut p (empty z t) = rw (cut_none p (empty_aligned p z t)) (empty z t)
cover_cut p (tiled l t) = tiled l (tiling_cut p t)

pub cover_cut_all : {s : Text} (ps : List ℕ) {cs : List Chunk} → Cover s cs → Cover s (cut_all ps cs)
cover_cut_all [] v = v
cover_cut_all (p ∷ ps) v = cover_cut_all ps (cover_cut p v)

-- ── where the cut finds nothing to do ──
-- a chunk that ends at p keeps the others from containing p
ends_cover : (p : ℕ) {cs : List Chunk} → All Proper cs → 0 < p → is_some (by_end p cs) ≡ true → 1 ≤ sum (covers (p - 1)) cs
ends_cover p nil q e = clash e refl
ends_cover p (cons {x = c} {xs = cs} x pr) q e = go (ℕ_discrete (end_of c) p) (ends_cover p pr q)
  where
    go : Dec (end_of c ≡ p) → (is_some (by_end p cs) ≡ true → 1 ≤ sum (covers (p - 1)) cs) → 1 ≤ covers (p - 1) c + sum (covers (p - 1)) cs
    go (yes k) ih = omega (arith, covers_in (p - 1) c (omega arith))
    go (no k) ih = omega (arith, ih (rw (ne_eqb (end_of c) p k) at e))

ends_aligned : (p : ℕ) (cs : List Chunk) → Once cs → All Proper cs → 0 < p → is_some (by_end p cs) ≡ true → All (λ c. Contains p c → ⊥) cs
ends_aligned p [] o pr q e = nil
ends_aligned p (c ∷ cs) o (cons x pr) q e = go (ℕ_discrete (end_of c) p) (ends_aligned p cs (once_rest c cs o) pr q)
  where
    go : Dec (end_of c ≡ p) → (is_some (by_end p cs) ≡ true → All (λ c. Contains p c → ⊥) cs) → All (λ c. Contains p c → ⊥) (c ∷ cs)
    go (yes k) ih =
        let u : Contains p c → ⊥ = λ i. omega arith in
        cons u (all_map (λ d n j. n (omega arith)) (none_cover (p - 1) cs (omega (arith, o (p - 1), covers_in (p - 1) c (omega arith)))))
    go (no k) ih =
        let f : is_some (by_end p cs) ≡ true = rw (ne_eqb (end_of c) p k) at e in
        let u : Contains p c → ⊥ = λ i. omega (arith, o (p - 1), covers_in (p - 1) c (omega arith), ends_cover p pr q f) in
        cons u (ih f)

-- "does nothing at 0, at or past the source's end, or at a chunk's edge"
pub idle_aligned : (p : ℕ) {s : Text} {cs : List Chunk} → Cover s cs → eqb p 0 || (leb (length s) p || is_some (by_end p cs)) ≡ true → All (λ c. Contains p c → ⊥) cs
idle_aligned p (empty z t) h = empty_aligned p z t
idle_aligned p (tiled {source = s} {cs = cs} l t) h = at_zero (or_cases (eqb p 0) (leb (length s) p || is_some (by_end p cs)) h)
  where
    at_edge : Dec (p ≡ 0) → is_some (by_end p cs) ≡ true → All (λ c. Contains p c → ⊥) cs
    at_edge (yes z) e = all_of (λ c i. omega arith) cs
    at_edge (no z) e = ends_aligned p cs (tiling_once t) t.proper (omega arith) e

    at_end : (leb (length s) p ≡ true) ⊎ (is_some (by_end p cs) ≡ true) → All (λ c. Contains p c → ⊥) cs
    at_end (inl e) = let k : length s ≤ p = leb-true (length s) p e in all_map (λ c w i. omega arith) t.within
    at_end (inr e) = at_edge (ℕ_discrete p 0) e

    at_zero : (eqb p 0 ≡ true) ⊎ (leb (length s) p || is_some (by_end p cs) ≡ true) → All (λ c. Contains p c → ⊥) cs
    at_zero (inl e) = let z : p ≡ 0 = eqb-true p 0 e in all_of (λ c i. omega arith) cs
    at_zero (inr e) = at_end (or_cases (leb (length s) p) (is_some (by_end p cs)) e)

pub aligned_splittable : (p : ℕ) {cs : List Chunk} → All (λ c. Contains p c → ⊥) cs → all (splittable p) cs ≡ true
aligned_splittable p n = true_all (splittable p) (all_map (λ c k. splittable_true p c (λ i. absurd (k i))) n)

-- ── where it looks for its chunk ──
no_other : (p : ℕ) (c : Chunk) (cs : List Chunk) → Once (c ∷ cs) → Contains p c → All (λ d. Contains p d → ⊥) cs
no_other p c cs o i = all_map (λ d n j. n (omega arith)) (none_cover p cs (omega (arith, o p, covers_in p c (omega arith))))

pub refuses_law : (p : ℕ) (cs : List Chunk) → Once cs → refuses_split (holder p cs) ≡ not (all (splittable p) cs)
unfolding splittable
refuses_law p [] o = refl
refuses_law p (c ∷ cs) o = go (dec_contains p c) (refuses_law p cs (once_rest c cs o))
  where
    filled : (b : Bool) → b ≡ not (not (true && b) && true)
    filled true = refl
    filled false = refl

    go : Dec (Contains p c) → refuses_split (holder p cs) ≡ not (all (splittable p) cs) → refuses_split (holder p (c ∷ cs)) ≡ not (all (splittable p) (c ∷ cs))
    go (yes i) ih = rw (contains_true p c i, aligned_splittable p (no_other p c cs o i)) (filled (is_filled c.texts.edited_content))
    go (no i) ih = rw (contains_false p c i) ih

split_holder_is_cut : (p : ℕ) (cs : List Chunk) → Once cs → split_holder p cs ≡ cut p cs
split_holder_is_cut p [] o = refl
split_holder_is_cut p (c ∷ cs) o = go (dec_contains p c) (split_holder_is_cut p cs (once_rest c cs o))
  where
    go : Dec (Contains p c) → split_holder p cs ≡ cut p cs → split_holder p (c ∷ cs) ≡ cut p (c ∷ cs)
    go (yes i) ih = rw (contains_true p c i, split_in p c i, cut_none p (no_other p c cs o i))
    go (no i) ih = rw (contains_false p c i, split_out p c i, ih)

-- ── the law ──
abbrev pub cut_result : ℕ → MagicString → Result
cut_result p m = cond (all (splittable p) m.chunks) (ok (with_chunks m (cut p m.chunks))) (err 6 m)

pub split_at_cover : (p : ℕ) (m : MagicString) → Cover m.source m.chunks → split_at p m ≡ cut_result p m
unfolding split_at
split_at_cover p m v = go (bool_cases (eqb p 0 || (leb (length m.source) p || is_some (by_end p m.chunks))))
  where
    swapped : (b : Bool) (x y : Result) → cond (not b) x y ≡ cond b y x
    swapped true x y = refl
    swapped false x y = refl

    go : (eqb p 0 || (leb (length m.source) p || is_some (by_end p m.chunks)) ≡ true) ⊎ (eqb p 0 || (leb (length m.source) p || is_some (by_end p m.chunks)) ≡ false)
        → cond (eqb p 0 || (leb (length m.source) p || is_some (by_end p m.chunks))) (ok m)
        (cond (refuses_split (holder p m.chunks)) (err 6 m) (ok (with_chunks m (split_holder p m.chunks)))) ≡ cut_result p m
    go (inl h) = let n = idle_aligned p v h in rw (h, aligned_splittable p n, cut_none p n)
    go (inr h) =
        rw (h, refuses_law p m.chunks (cover_once v), split_holder_is_cut p m.chunks (cover_once v))
        (swapped (all (splittable p) m.chunks) (err 6 m) (ok (with_chunks m (cut p m.chunks))))

-- ── cuts one after another, then a step ──
pub cuts_then_closed : (ps : List ℕ) (step : MagicString → Result) (m : MagicString) → Cover m.source m.chunks
    → cuts_then ps step m ≡ cond (cuttable ps m.chunks) (step (with_chunks m (cut_all ps m.chunks))) (err 6 (with_chunks m (cut_until_refused ps m.chunks)))
cuts_then_closed [] step m v = refl
cuts_then_closed (p ∷ ps) step m v =
    ap (λ r. and_then r (cuts_then ps step)) (split_at_cover p m v)
    ∙ go (all (splittable p) m.chunks) (cuts_then_closed ps step m' (cover_cut p v))
  where
    m' : MagicString
    m' = with_chunks m (cut p m.chunks)

    kept : Result
    kept = step (with_chunks m (cut_all ps (cut p m.chunks)))

    r : List Chunk
    r = cut_until_refused ps (cut p m.chunks)

    go : (b : Bool) → cuts_then ps step m' ≡ cond (cuttable ps (cut p m.chunks)) kept (err 6 (with_chunks m r))
        → and_then (cond b (ok m') (err 6 m)) (cuts_then ps step) ≡ cond (b && cuttable ps (cut p m.chunks)) kept (err 6 (with_chunks m (cond b r m.chunks)))
    go true ih = ih
    go false ih = refl

-- ── a plan: its cuts, then a step that does the rest ──
abbrev pub after_cuts : Plan → MagicString → Result
after_cuts P m =
    let cs : List Chunk = cut_all (cuts P) m.chunks in
    cond (ends_past (length m.source) P) (err 10 (with_chunks m cs))
    (cond (frozen_in P cs) (err 20 (with_chunks m cs))
    (cond (in_order P cs) (ok (apply P m)) (err (order_number P) (with_chunks m (left_over P cs)))))

pub cuts_then_step : (P : Plan) (step : MagicString → Result) (m : MagicString) → Cover m.source m.chunks
    → step (with_chunks m (cut_all (cuts P) m.chunks)) ≡ after_cuts P m → cuts_then (cuts P) step m ≡ closed_plan P m
unfolding closed_plan
cuts_then_step P step m v h =
    cuts_then_closed (cuts P) step m v
    ∙ ap (λ r. cond (cuttable (cuts P) m.chunks) r (err 6 (with_chunks m (cut_until_refused (cuts P) m.chunks)))) h
