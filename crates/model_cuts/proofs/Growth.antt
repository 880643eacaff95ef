-- The law: an edit's value is the growth in chunks, which is the number of its cuts that were made and remain.
use Prim.Native.Nat.{ℕ, zero, suc, ◌+◌, ◌≤◌, ◌<◌}
use native.Mathlib.Omega.{arith}
use native.Mathlib.Decide.{dec_lt, ℕ_discrete}
use mathlib.Core.Path.{◌≡◌, refl, ap, ◌∙◌}
use mathlib.Core.Bool.{Bool, true, false, ◌&&◌, not, cond}
use mathlib.Core.List.{List, [], ◌∷◌, map}
use lib.Dec.{ltb, leb, eqb}
use lib.ListN.{length}
use borrow.Author.Tests.{eq-eqb, ne_eqb, lt-ltb, le-ltb, le-leb, lt-leb}
use Rattle.model.specs.Text.{Text}
use Rattle.model.specs.Chunk.{Texts, edit, reset_texts}
use Rattle.model.specs.MagicString.{MagicString, Result, ok, err, with_chunks, by_edge_mut}
use Rattle.model.specs.Frozen.{has_frozen, unless_guarded, freeze_chunk, freeze_range}
use Rattle.model.specs.Frozen as frozen_parts
use Rattle.model.specs.Insert as insert_rs
use Rattle.model.specs.Update.{update_chunks}
use Rattle.model.specs.Update as update_rs
use Rattle.model.specs.Movement.{change_by_position, change_range, segment, move_segment}
use Rattle.model.specs.Movement as movement_rs
use Rattle.model.specs.Reset as reset_rs
use Rattle.model.specs.Limits.{Limits, within}
use Rattle.model.specs.WellFormed.{Formed}
use Rattle.model.specs.Call.{Edit, remove, update_with, reset, insert, append, prepend, relocate, trim, trim_start, trim_end, trim_lines, indent_with}
use Rattle.model.specs.Call.{freeze, steps, refused_before, judged, run}
use Rattle.model_closed_forms.specs.Spans.{Cover}
use Rattle.model_closed_forms.specs.SplitAt.{cuts_then}
use Rattle.model_closed_forms.proofs.Spans.{formed_cover}
use Rattle.model_preservation.proofs.Lists.{of_cond}
use Rattle.model_preservation.proofs.Calls.{run_keeps}
use Rattle.model_cuts.specs.Cuts.{count_made, cuts_of, cuts_made, cuts_at_most, CutsCounted, AllCutsCounted}
use Rattle.model_cuts.proofs.Cuts.{Grows, cuts_grow, count_few}
use Rattle.model_cuts.proofs.Steps.{change_keeps, freeze_keeps, insert_keeps, update_keeps, move_keeps, trim_start_length, trim_end_length, trim_length}
use Rattle.model_cuts.proofs.Indent.{indent_grows}

-- ── how the ends of a range compare, by the tests of an edit ──
-- equal, reversed, in order
data Ends : Bool → Bool → Bool → Type 0 where
  equal : Ends true false false
  reversed : Ends false true false
  ordered : Ends false false true

ends : (a b : ℕ) → Ends (eqb a b) (ltb b a) (ltb a b)
ends a b = go (ℕ_discrete a b) (dec_lt b a)
  where
    go : Dec (a ≡ b) → Dec (b < a) → Ends (eqb a b) (ltb b a) (ltb a b)
    go (yes e) _ = rw (eq-eqb a b e, le-ltb b a (omega arith), le-ltb a b (omega arith)) equal
    go (no e) (yes l) = rw (ne_eqb a b e, lt-ltb b a l, le-ltb a b (omega arith)) reversed
    go (no e) (no l) = rw (ne_eqb a b e, le-ltb b a (omega arith), lt-ltb a b (omega arith)) ordered

-- past the source's end or not
data Bound : Bool → Bool → Type 0 where
  past : Bound true false
  inside : Bound false true

bound : (n b : ℕ) → Bound (ltb n b) (leb b n)
bound n b = go (dec_lt n b)
  where
    go : Dec (n < b) → Bound (ltb n b) (leb b n)
    go (yes l) = rw (lt-ltb n b l, lt-leb b n l) past
    go (no l) = rw (le-ltb n b (omega arith), le-leb b n (omega arith)) inside

-- ── each edit ──
stays : (m : MagicString) → Grows [] m (ok m)
stays m = omega arith

module _ (a b : ℕ) (m : MagicString) (v : Cover m.source m.chunks) where
  range_grows : (f : Texts → Texts) → Grows (a ∷ b ∷ []) m (change_range has_frozen f a b m)
  unfolding change_range
  range_grows f =
      cuts_grow (a ∷ b ∷ []) (λ m. unless_guarded has_frozen a b m (ok (with_chunks m (change_by_position (length m.chunks) f a b m.chunks)))) (change_keeps has_frozen f a b) m v

  remove_grows : Grows (cuts_of (remove a b) m) m (movement_rs.remove has_frozen a b m)
  unfolding cuts_of movement_rs.remove
  remove_grows = go (ends a b)
    where
      go : {x y z : Bool} → Ends x y z → Grows (cond z (a ∷ b ∷ []) []) m (cond x (ok m) (cond y (err 4 m) (change_range has_frozen (edit [] true) a b m)))
      go equal = stays m
      go reversed = stays m
      go ordered = range_grows (edit [] true)

  update_grows : (t : Text) (o : Bool) → Grows (cuts_of (update_with a b t o) m) m (update_rs.update_with has_frozen a b t o m)
  unfolding cuts_of update_rs.update_with
  update_grows t o = go (ends a b)
    where
      step : MagicString → Result
      step m = cond (ltb (length m.source) b) (err 10 m) (unless_guarded has_frozen a b m (update_chunks a b t o m))

      go : {x y z : Bool} → Ends x y z → Grows (cond z (a ∷ b ∷ []) []) m (cond x (err 5 m) (cond y (err 4 m) (cuts_then (a ∷ b ∷ []) step m)))
      go equal = stays m
      go reversed = stays m
      go ordered = cuts_grow (a ∷ b ∷ []) step (update_keeps has_frozen a b t o) m v

  -- the tests of reset, and of freezing
  bounded_grows : (r : Result) → Grows (a ∷ b ∷ []) m r
      → Grows (cond (ltb a b && leb b (length m.source)) (a ∷ b ∷ []) []) m (cond (eqb a b) (ok m) (cond (ltb b a) (err 4 m) (cond (ltb (length m.source) b) (err 10 m) r)))
  bounded_grows r h = go (ends a b) (bound (length m.source) b)
    where
      go : {x y z p q : Bool} → Ends x y z → Bound p q → Grows (cond (z && q) (a ∷ b ∷ []) []) m (cond x (ok m) (cond y (err 4 m) (cond p (err 10 m) r)))
      go equal _ = stays m
      go reversed _ = stays m
      go ordered past = stays m
      go ordered inside = h

  reset_grows : Grows (cuts_of (reset a b) m) m (reset_rs.reset has_frozen a b m)
  unfolding cuts_of reset_rs.reset
  reset_grows = bounded_grows (change_range has_frozen reset_texts a b m) (range_grows reset_texts)

  freeze_grows : Grows (cuts_of (freeze a b) m) m (frozen_parts.freeze a b m)
  unfolding cuts_of frozen_parts.freeze freeze_range
  freeze_grows =
      bounded_grows (freeze_range a b m) (cuts_grow (a ∷ b ∷ []) (λ m. ok (with_chunks m (map (freeze_chunk a b) m.chunks))) (freeze_keeps a b) m v)

  move_grows : (to : ℕ) → Grows (cuts_of (relocate a b to) m) m (movement_rs.relocate a b to m)
  unfolding cuts_of movement_rs.relocate
  move_grows to = go (leb a to && leb to b) (ends a b) (bound (length m.source) b)
    where
      ps : List ℕ
      ps = a ∷ b ∷ to ∷ []

      step : MagicString → Result
      step m = move_segment to m (segment a b m.chunks)

      go : (w : Bool) {x y z p q : Bool} → Ends x y z → Bound p q
          → Grows (cond ((z && q) && not w) ps []) m (cond w (err 8 m) (cond x (ok m) (cond y (err 4 m) (cond p (err 10 m) (cuts_then ps step m)))))
      go true equal _ = stays m
      go true reversed _ = stays m
      go true ordered past = stays m
      go true ordered inside = stays m
      go false equal _ = stays m
      go false reversed _ = stays m
      go false ordered past = stays m
      go false ordered inside = cuts_grow ps step (move_keeps a b to) m v

insert_grows : (p : ℕ) (t : Text) (left front : Bool) (m : MagicString) → Cover m.source m.chunks → Grows (p ∷ []) m (insert_rs.insert p t left front m)
unfolding by_edge_mut
insert_grows p t left front m v = cuts_grow (p ∷ []) (insert_rs.insert_step p t left front) (insert_keeps left p (insert_rs.push_to left front t) (insert_rs.push front t)) m v

pub steps_grow : (e : Edit) (m : MagicString) → Cover m.source m.chunks → Grows (cuts_of e m) m (steps e m)
unfolding cuts_of
steps_grow (remove a b) m v = remove_grows a b m v
steps_grow (update_with a b t o) m v = update_grows a b m v t o
steps_grow (reset a b) m v = reset_grows a b m v
steps_grow (insert p t left front) m v = insert_grows p t left front m v
steps_grow (append t) m v = stays m
steps_grow (prepend t) m v = stays m
steps_grow (relocate a b to) m v = move_grows a b m v to
steps_grow (trim p) m v = omega (arith, trim_length p m)
steps_grow (trim_start p) m v = omega (arith, trim_start_length p m)
steps_grow (trim_end p) m v = omega (arith, trim_end_length p m)
steps_grow trim_lines m v = omega (arith, trim_length 1 m)
steps_grow (indent_with i l) m v = indent_grows i l m v
steps_grow (freeze a b) m v = freeze_grows a b m v

-- ── how many at most ──
few_positions : (e : Edit) (m : MagicString) → length (cuts_of e m) ≤ cuts_at_most e m
unfolding cuts_of cuts_at_most
few_positions (remove a b) m = of_cond (λ (l : List ℕ). length l ≤ 2) (ltb a b) (λ _. omega arith) (λ _. omega arith)
few_positions (update_with a b t o) m = of_cond (λ (l : List ℕ). length l ≤ 2) (ltb a b) (λ _. omega arith) (λ _. omega arith)
few_positions (reset a b) m = of_cond (λ (l : List ℕ). length l ≤ 2) (ltb a b && leb b (length m.source)) (λ _. omega arith) (λ _. omega arith)
few_positions (insert p t left front) m = omega arith
few_positions (append t) m = omega arith
few_positions (prepend t) m = omega arith
few_positions (relocate a b to) m =
    of_cond (λ (l : List ℕ). length l ≤ 3) ((ltb a b && leb b (length m.source)) && not (leb a to && leb to b)) (λ _. omega arith) (λ _. omega arith)
few_positions (trim p) m = omega arith
few_positions (trim_start p) m = omega arith
few_positions (trim_end p) m = omega arith
few_positions trim_lines m = omega arith
few_positions (indent_with i l) m = omega arith
few_positions (freeze a b) m = of_cond (λ (l : List ℕ). length l ≤ 2) (ltb a b && leb b (length m.source)) (λ _. omega arith) (λ _. omega arith)

-- ── the call ──
-- the desk that it leaves: 15, 1, 3, the whole desk's 20 and 13 change nothing
run_desk : (k : Limits) (e : Edit) (m : MagicString) → (run k e m).desk ≡ cond (eqb (refused_before m e) 0 && within k (steps e m).desk) (steps e m).desk m
unfolding run judged
run_desk k e m = go (refused_before m e) (within k (steps e m).desk)
  where
    go : (n : ℕ) (b : Bool) → (elim n as (λ _. Result) [ suc j ↦ err (suc j) m | zero ↦ cond (not b) (err 13 m) (steps e m) ]).desk ≡ cond (eqb n 0 && b) (steps e m).desk m
    go (suc n) b = rw (ne_eqb (suc n) 0 (λ z. omega arith))
    go zero true = refl
    go zero false = refl

run_grows : (k : Limits) (e : Edit) (m : MagicString) → Formed m → length (run k e m).desk.chunks ≡ length m.chunks + cuts_made k e m
unfolding cuts_made
run_grows k e m f = ap (λ (n : MagicString). length n.chunks) (run_desk k e m) ∙ go (eqb (refused_before m e) 0 && within k (steps e m).desk)
  where
    go : (b : Bool) → length (cond b (steps e m).desk m).chunks ≡ length m.chunks + cond b (count_made (cuts_of e m) m) 0
    go true = steps_grow e m (formed_cover f)
    go false = stays m

made_few : (k : Limits) (e : Edit) (m : MagicString) → cuts_made k e m ≤ cuts_at_most e m
unfolding cuts_made
made_few k e m =
    of_cond (λ (n : ℕ). n ≤ cuts_at_most e m) (eqb (refused_before m e) 0 && within k (steps e m).desk)
    (λ _. omega (arith, count_few (cuts_of e m) m, few_positions e m)) (λ _. omega arith)

pub cuts_counted : CutsCounted
cuts_counted k e m f = record { growth = run_grows k e m f; value = omega (arith, run_grows k e m f); few = omega (arith, run_grows k e m f, made_few k e m) }

pub all_cuts_counted : AllCutsCounted
all_cuts_counted k [] m w = omega arith
all_cuts_counted k (e ∷ L) m w =
    let c = cuts_counted k e m w.formed in
    omega (arith, all_cuts_counted k L (run k e m).desk (run_keeps k e m w), c.growth, c.value)
