-- The walk of `relocate`: where its range stands together, the rearrangement by spans, with no case of its own for a range that stands there already; else 9.
use Prim.Native.Nat.{ℕ, ◌+◌, ◌≤◌}
use native.Mathlib.Omega.{arith}
use native.Mathlib.Decide.{ℕ_discrete}
use mathlib.Core.Path.{◌≡◌, refl, ap, sym, ◌∙◌, subst}
use mathlib.Core.Bool.{Bool, true, false, not, cond}
use mathlib.Core.List.{List, [], ◌∷◌, ◌++◌, append-nil}
use mathlib.Core.Option.{Option, none, some}
use mathlib.Core.Logic.{◌⊎◌, inl, inr}
use borrow.Author.Tests.{eqb-true, eq-eqb, ne_eqb}
use Rattle.utf8.specs.Chars.{All, cons}
use Rattle.utf8.proofs.CharLaws.{all_front, all_back}
use Rattle.model.specs.Text.{sum, is_some}
use Rattle.model.specs.Chunk.{Chunk, start_of, end_of}
use Rattle.model.specs.MagicString.{MagicString, ok, err, with_chunks, by_start}
use Rattle.model.specs.Movement.{Segment, together, apart, into_range, before_range, range_from, segment, insert_before, stands_there, move_segment}
use Rattle.model.specs.WellFormed.{covers}
use Rattle.model.proofs.Lists.{clash, bool_cases, first_of, rest_of, all_map, sum_append}
use Rattle.model.proofs.Spans.{covers_in}
use Rattle.model_closed_forms.specs.Plan.{move, inside, outside, keep, ascends, stands_together, rearrange}
use Rattle.model_closed_forms.proofs.Spans.{Inside, inside_true, inside_false, self_covered, Once}
use Rattle.model_closed_forms.specs.Spans.{Proper}
use Rattle.model_closed_forms.proofs.ByPosition.{none_starts}
use Rattle.model_closed_forms.proofs.Together.{Tiles, tiles_inside, tiles_cover, ascends_from, ascends_from_is_together, keep_append, keep_every, keep_no, insert_skips}

-- ── the range is_some, or not ──
data RangeAtHead (a b : ℕ) (cs : List Chunk) : Bool → Segment → Type 0 where
  range_found : (range behind : List Chunk) → cs ≡ range ++ behind → Tiles a b range → RangeAtHead a b cs true (together [] range behind)
  range_missing : RangeAtHead a b cs false apart

data RangeInList (a b : ℕ) (cs : List Chunk) : Bool → Segment → Type 0 where
  found_in_list : (before range behind : List Chunk) → cs ≡ before ++ (range ++ behind) → Tiles a b range → RangeInList a b cs true (together before range behind)
  missing_in_list : RangeInList a b cs false apart

one_more : (b : ℕ) (c : Chunk) {y : ℕ} {cs : List Chunk} {k : Bool} {r : Segment} → Proper c → y ≡ end_of c → RangeAtHead y b cs k r → RangeAtHead (start_of c) b (c ∷ cs) k (into_range c r)
one_more b c p e (range_found range behind q t) = range_found (c ∷ range) behind (ap (λ l. c ∷ l) q) (refl, p, subst (λ (y : ℕ). Tiles y b range) e t)
one_more b c p e range_missing = range_missing

range_law : (b : ℕ) (c : Chunk) (cs : List Chunk) → All Proper (c ∷ cs) → RangeAtHead (start_of c) b (c ∷ cs) (ascends (end_of c) b cs) (range_from b (c ∷ cs))
range_law b c [] (cons p pr) = go (ℕ_discrete (end_of c) b)
  where
    go : Dec (end_of c ≡ b) → RangeAtHead (start_of c) b (c ∷ []) (ascends (end_of c) b []) (range_from b (c ∷ []))
    go (yes e) = rw (eq-eqb (end_of c) b e) (range_found (c ∷ []) [] refl (refl, p, e))
    go (no e) = rw (ne_eqb (end_of c) b e) range_missing
range_law b c (d ∷ ds) (cons p pr) = go (ℕ_discrete (end_of c) b) (ℕ_discrete (start_of d) (end_of c)) (range_law b d ds pr)
  where
    go : Dec (end_of c ≡ b) → Dec (start_of d ≡ end_of c) → RangeAtHead (start_of d) b (d ∷ ds) (ascends (end_of d) b ds) (range_from b (d ∷ ds)) →
        RangeAtHead (start_of c) b (c ∷ d ∷ ds) (ascends (end_of c) b (d ∷ ds)) (range_from b (c ∷ d ∷ ds))
    go (yes e) _ ih = rw (eq-eqb (end_of c) b e) (range_found (c ∷ []) (d ∷ ds) refl (refl, p, e))
    go (no e) (yes s) ih = rw (ne_eqb (end_of c) b e, eq-eqb (start_of d) (end_of c) s) (one_more b c p s ih)
    go (no e) (no s) ih = rw (ne_eqb (end_of c) b e, ne_eqb (start_of d) (end_of c) s) range_missing

from_start : (a b : ℕ) {y : ℕ} {cs : List Chunk} {k : Bool} {r : Segment} → y ≡ a → RangeAtHead y b cs k r → RangeInList a b cs k r
from_start a b e (range_found range behind q t) = found_in_list [] range behind q (subst (λ (y : ℕ). Tiles y b range) e t)
from_start a b e range_missing = missing_in_list

one_before : (a b : ℕ) (c : Chunk) {cs : List Chunk} {k : Bool} {r : Segment} → RangeInList a b cs k r → RangeInList a b (c ∷ cs) k (before_range c r)
one_before a b c (found_in_list before range behind q t) = found_in_list (c ∷ before) range behind (ap (λ l. c ∷ l) q) t
one_before a b c missing_in_list = missing_in_list

segment_law : (a b : ℕ) (cs : List Chunk) → All Proper cs → RangeInList a b cs (ascends_from a b cs) (segment a b cs)
segment_law a b [] pr = missing_in_list
segment_law a b (c ∷ cs) pr = go (ℕ_discrete (start_of c) a) (segment_law a b cs (rest_of pr))
  where
    go : Dec (start_of c ≡ a) → RangeInList a b cs (ascends_from a b cs) (segment a b cs) → RangeInList a b (c ∷ cs) (ascends_from a b (c ∷ cs)) (segment a b (c ∷ cs))
    go (yes e) ih = rw (eq-eqb (start_of c) a e) (from_start a b e (range_law b c cs pr))
    go (no e) ih = rw (ne_eqb (start_of c) a e) (one_before a b c ih)

-- ── the rearrangement, on the list taken apart ──
module _ (a b to : ℕ) (xs ys zs : List Chunk) (one : Once (xs ++ (ys ++ zs))) (pr : All Proper (xs ++ (ys ++ zs))) (t : Tiles a b ys) where
  parts_sum : (w : Chunk → ℕ) → sum w (xs ++ (ys ++ zs)) ≡ sum w xs + (sum w ys + sum w zs)
  parts_sum w = sum_append w xs (ys ++ zs) ∙ ap (λ k. sum w xs + k) (sum_append w ys zs)

  -- a chunk of another part does not start in the range
  away : (l : List Chunk) → All Proper l → ((x : ℕ) → sum (covers x) l + sum (covers x) ys ≤ 1) → All (λ d. Inside a b (start_of d) → ⊥) l
  away l p o =
      let w : (d : Chunk) → 1 ≤ sum (covers (start_of d)) l → Inside a b (start_of d) → ⊥ = λ d k i. omega (arith, o (start_of d), tiles_cover a b (start_of d) ys t i.0 i.1) in
      all_map w (self_covered p)

  before_away : All (λ d. Inside a b (start_of d) → ⊥) xs
  before_away = away xs (all_front Proper xs (ys ++ zs) pr) (λ x. omega (arith, one x, parts_sum (covers x)))

  behind_away : All (λ d. Inside a b (start_of d) → ⊥) zs
  behind_away = away zs (all_back Proper ys zs (all_back Proper xs (ys ++ zs) pr)) (λ x. omega (arith, one x, parts_sum (covers x)))

  kept_inside : keep (inside a b) (xs ++ (ys ++ zs)) ≡ ys
  kept_inside =
      keep_append (inside a b) xs (ys ++ zs)
      ∙ rw (
        keep_no (inside a b) (all_map (λ d n. inside_false a b (start_of d) n) before_away),
        keep_append (inside a b) ys zs,
        keep_every (inside a b) (all_map (λ d i. inside_true a b (start_of d) i) (tiles_inside a b ys t)),
        keep_no (inside a b) (all_map (λ d n. inside_false a b (start_of d) n) behind_away),
      ) (append-nil ys)

  kept_outside : keep (outside a b) (xs ++ (ys ++ zs)) ≡ xs ++ zs
  unfolding outside
  kept_outside =
      keep_append (outside a b) xs (ys ++ zs)
      ∙ rw (
        keep_every (outside a b) (all_map (λ d n. ap not (inside_false a b (start_of d) n)) before_away),
        keep_append (outside a b) ys zs,
        keep_no (outside a b) (all_map (λ d i. ap not (inside_true a b (start_of d) i)) (tiles_inside a b ys t)),
        keep_every (outside a b) (all_map (λ d n. ap not (inside_false a b (start_of d) n)) behind_away),
      )

  rearranged : rearrange (move a b to) (xs ++ (ys ++ zs)) ≡ insert_before to ys (xs ++ zs)
  unfolding rearrange
  rearranged = rw (kept_inside, kept_outside)

-- ── a range that stands there already ──
by_start_start : (to : ℕ) (cs : List Chunk) (d : Chunk) → by_start to cs ≡ some d → start_of d ≡ to
by_start_start to [] d h = let z : ◌≡◌ {A = ℕ} 0 1 = cc in absurd (omega arith)
by_start_start to (c ∷ cs) d h = go (ℕ_discrete (start_of c) to) (by_start_start to cs d)
  where
    go : Dec (start_of c ≡ to) → (by_start to cs ≡ some d → start_of d ≡ to) → start_of d ≡ to
    go (yes e) ih = let k : some c ≡ some d = rw (eq-eqb (start_of c) to e) at h in let s : c ≡ d = cc in sym (ap start_of s) ∙ e
    go (no e) ih = ih (rw (ne_eqb (start_of c) to e) at h)

-- it is put where it was
stays : (to : ℕ) (xs ys zs : List Chunk) → Once (xs ++ (ys ++ zs)) → All Proper (xs ++ (ys ++ zs)) → stands_there (by_start to (xs ++ (ys ++ zs))) zs ≡ true →
    insert_before to ys (xs ++ zs) ≡ xs ++ (ys ++ zs)
stays to xs ys zs one pr h = go (by_start to (xs ++ (ys ++ zs))) refl zs one pr h
  where
    go : (o : Option Chunk) → by_start to (xs ++ (ys ++ zs)) ≡ o → (rest : List Chunk) → Once (xs ++ (ys ++ rest)) → All Proper (xs ++ (ys ++ rest)) →
        stands_there o rest ≡ true → insert_before to ys (xs ++ rest) ≡ xs ++ (ys ++ rest)
    go none e [] one pr h =
        insert_skips to ys [] (all_front (λ d. start_of d ≡ to → ⊥) xs (ys ++ zs) (none_starts to (xs ++ (ys ++ zs)) (ap is_some e)))
        ∙ ap (λ l. xs ++ l) (sym (append-nil ys))
    go none e (z ∷ rest) one pr h = clash h refl
    go (some d) e [] one pr h = clash h refl
    go (some d) e (z ∷ rest) one pr h =
        let s : start_of z ≡ to = eqb-true (start_of z) (start_of d) h ∙ by_start_start to (xs ++ (ys ++ zs)) d e in
        let pz : Proper z = first_of (all_back Proper ys (z ∷ rest) (all_back Proper xs (ys ++ (z ∷ rest)) pr)) in
        let w : (c : Chunk) → 1 ≤ sum (covers (start_of c)) xs → start_of c ≡ to → ⊥ =
        λ c k j. omega (arith, one (start_of c), sum_append (covers (start_of c)) xs (ys ++ (z ∷ rest)), sum_append (covers (start_of c)) ys (z ∷ rest), covers_in (start_of c) z (omega arith)) in
        insert_skips to ys (z ∷ rest) (all_map w (self_covered (all_front Proper xs (ys ++ (z ∷ rest)) pr))) ∙ rw (eq-eqb (start_of z) to s)

moved : (a b to : ℕ) (xs ys zs : List Chunk) → Once (xs ++ (ys ++ zs)) → All Proper (xs ++ (ys ++ zs)) → Tiles a b ys
    → cond (stands_there (by_start to (xs ++ (ys ++ zs))) zs) (xs ++ (ys ++ zs)) (insert_before to ys (xs ++ zs)) ≡ rearrange (move a b to) (xs ++ (ys ++ zs))
moved a b to xs ys zs one pr t = go (bool_cases (stands_there (by_start to (xs ++ (ys ++ zs))) zs)) ∙ sym (rearranged a b to xs ys zs one pr t)
  where
    go : (stands_there (by_start to (xs ++ (ys ++ zs))) zs ≡ true) ⊎ (stands_there (by_start to (xs ++ (ys ++ zs))) zs ≡ false)
        → cond (stands_there (by_start to (xs ++ (ys ++ zs))) zs) (xs ++ (ys ++ zs)) (insert_before to ys (xs ++ zs)) ≡ insert_before to ys (xs ++ zs)
    go (inl h) = rw h (sym (stays to xs ys zs one pr h))
    go (inr h) = rw h

-- ── the step behind the cuts ──
move_law : (a b to : ℕ) (m : MagicString) {k : Bool} {r : Segment} → RangeInList a b m.chunks k r → Once m.chunks → All Proper m.chunks
    → move_segment to m r ≡ cond k (ok (with_chunks m (rearrange (move a b to) m.chunks))) (err 9 m)
move_law a b to m missing_in_list one pr = refl
move_law a b to m (found_in_list xs ys zs q t) one pr =
    either (stands_there (by_start to m.chunks) zs) (insert_before to ys (xs ++ zs))
    ∙ ap (λ cs. ok (with_chunks m cs)) (subst (λ (l : List Chunk). cond (stands_there (by_start to l) zs) l (insert_before to ys (xs ++ zs)) ≡ rearrange (move a b to) l) (sym q)
    (moved a b to xs ys zs (subst Once q one) (subst (All Proper) q pr) t))
  where
    either : (s : Bool) (l : List Chunk) → cond s (ok m) (ok (with_chunks m l)) ≡ ok (with_chunks m (cond s m.chunks l))
    either true l = refl
    either false l = refl

-- accepted exactly if the range stands together; else 9
pub move_segment_closed : (a b to : ℕ) (m : MagicString) → (a ≡ b → ⊥) → Once m.chunks → All Proper m.chunks
    → move_segment to m (segment a b m.chunks) ≡ cond (stands_together a b m.chunks) (ok (with_chunks m (rearrange (move a b to) m.chunks))) (err 9 m)
move_segment_closed a b to m n one pr = rw (← ascends_from_is_together a b m.chunks n one pr) (move_law a b to m (segment_law a b m.chunks pr) one pr)
