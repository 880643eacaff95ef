-- The walk of `update_with` is a map over the chunks: where its range stands together the replacement, else the chunks that it cleared before 7.
use Prim.Native.Nat.{ℕ, ◌-◌, ◌≤◌, ◌<◌}
use native.Mathlib.Omega.{arith}
use native.Mathlib.Decide.{dec_lt, ℕ_discrete}
use mathlib.Core.Path.{◌≡◌, refl, ap, ap₂, sym, ◌∙◌}
use mathlib.Core.Bool.{Bool, true, false, ◌&&◌, ◌||◌, cond}
use mathlib.Core.List.{List, [], ◌∷◌, map}
use mathlib.Core.Option.{some}
use mathlib.Core.Logic.{◌⊎◌, inl, inr}
use lib.Dec.{ltb, eqb}
use borrow.Author.Tests.{eqb-true, eq-eqb, ne_eqb, lt-ltb, le-ltb}
use Rattle.utf8.specs.Chars.{All}
use Rattle.model.specs.Text.{Text, sum}
use Rattle.model.specs.Chunk.{Chunk, bare, with_texts, start_of, end_of, edit}
use Rattle.model.specs.MagicString.{MagicString, ok, err, with_chunks}
use Rattle.model.specs.Update.{Walk, onto, clear_run, update_walk, update_chunks}
use Rattle.model.specs.WellFormed.{covers}
use Rattle.model.proofs.Lists.{clash, bool_cases, false_of, and_left, and_right, or_cases, first_of, rest_of, all_of, all_map, all_map₂, map_same, map_none}
use Rattle.model.proofs.Spans.{covers_in}
use Rattle.model_closed_forms.specs.Plan.{replace, act, acted, ascends, stands_together, cleared_so_far}
use Rattle.model_closed_forms.proofs.Spans.{Inside, inside_true, inside_false, member_covers, self_covered, Once, once_rest, one_end}
use Rattle.model_closed_forms.specs.Spans.{Proper}
use Rattle.model_closed_forms.proofs.Together.{Together, together_of, together_cover, ascends_from, ascends_from_is_together, ascends_le}

-- ── what a replacement makes of one chunk ──
pub replace_in : (a b : ℕ) (t : Text) (o : Bool) (c : Chunk) → Inside a b (start_of c) → acted (replace a b t o) c ≡ with_texts (λ x. cond (eqb (start_of c) a) (edit t o x) (bare (some []))) c
unfolding act
replace_in a b t o c h = rw (inside_true a b (start_of c) h)

pub replace_out : (a b : ℕ) (t : Text) (o : Bool) (c : Chunk) → (Inside a b (start_of c) → ⊥) → acted (replace a b t o) c ≡ c
unfolding act
replace_out a b t o c h = rw (inside_false a b (start_of c) h)

-- ── whether the walk comes through ──
run_done : (y b : ℕ) (cs : List Chunk) → (clear_run y b cs).done ≡ ascends y b cs
run_done y b [] = refl
run_done y b (c ∷ cs) = go (eqb y b) (eqb (start_of c) y) (run_done (end_of c) b cs)
  where
    go : (u v : Bool) → (clear_run (end_of c) b cs).done ≡ ascends (end_of c) b cs
        → (cond u (record { done = true; chunks = c ∷ cs }) (cond v (onto (with_texts (edit [] true) c) (clear_run (end_of c) b cs))
        (record { done = false; chunks = c ∷ cs }))).done ≡ u || (v && ascends (end_of c) b cs)
    go true v ih = refl
    go false true ih = ih
    go false false ih = refl

walk_done : (a b : ℕ) (t : Text) (o : Bool) (cs : List Chunk) → (update_walk a b t o cs).done ≡ ascends_from a b cs
walk_done a b t o [] = refl
walk_done a b t o (c ∷ cs) = go (eqb (start_of c) a) (walk_done a b t o cs)
  where
    r : Walk
    r = clear_run (end_of c) b cs

    go : (u : Bool) → (update_walk a b t o cs).done ≡ ascends_from a b cs
        → (cond u (onto (cond r.done (with_texts (edit t o) c) c) r) (onto c (update_walk a b t o cs))).done ≡ cond u (ascends (end_of c) b cs) (ascends_from a b cs)
    go true ih = run_done (end_of c) b cs
    go false ih = ih

-- ── accepted: the replacement ──
module _ (a b : ℕ) (t : Text) (o : Bool) where
  replace_none : {cs : List Chunk} → All (λ d. Inside a b (start_of d) → ⊥) cs → cs ≡ map (acted (replace a b t o)) cs
  replace_none h = sym (map_none (acted (replace a b t o)) (all_map (λ d n. replace_out a b t o d n) h))

  run_chunks : (y : ℕ) (cs : List Chunk) → a < y → Once cs → All Proper cs → All (λ d. Inside a y (start_of d) → ⊥) cs → ascends y b cs ≡ true →
      (clear_run y b cs).chunks ≡ map (acted (replace a b t o)) cs
  run_chunks y [] l one pr n h = refl
  run_chunks y (c ∷ cs) l one pr n h = go (ℕ_discrete y b) (or_cases (eqb y b) (eqb (start_of c) y && ascends (end_of c) b cs) h) (run_chunks (end_of c) cs)
    where
      go : Dec (y ≡ b) → (eqb y b ≡ true) ⊎ (eqb (start_of c) y && ascends (end_of c) b cs ≡ true)
          → (a < end_of c → Once cs → All Proper cs → All (λ d. Inside a (end_of c) (start_of d) → ⊥) cs → ascends (end_of c) b cs ≡ true →
          (clear_run (end_of c) b cs).chunks ≡ map (acted (replace a b t o)) cs)
          → (clear_run y b (c ∷ cs)).chunks ≡ map (acted (replace a b t o)) (c ∷ cs)
      go (yes e) _ ih = rw (eq-eqb y b e) (replace_none (all_map (λ d k i. k (omega arith)) n))
      go (no e) (inl k) ih = absurd (e (eqb-true y b k))
      go (no e) (inr k) ih =
          let f : ascends (end_of c) b cs ≡ true = and_right (eqb (start_of c) y) (ascends (end_of c) b cs) k in
          let s : start_of c ≡ y = eqb-true (start_of c) y (and_left (eqb (start_of c) y) (ascends (end_of c) b cs) k) in
          let p : start_of c < end_of c = first_of pr in
          let le : y ≤ b = ascends_le y b pr h in
          let m : (d : Chunk) → (Inside a y (start_of d) → ⊥) → 1 ≤ sum (covers (start_of d)) cs → Inside a (end_of c) (start_of d) → ⊥ = λ d q u i. part s d q u i (dec_lt (start_of d) y) in
          let r : (clear_run (end_of c) b cs).chunks ≡ map (acted (replace a b t o)) cs = ih (omega arith) (once_rest c cs one) (rest_of pr) (all_map₂ m (rest_of n) (self_covered (rest_of pr))) f in
          let d : acted (replace a b t o) c ≡ with_texts (λ x. cond (eqb (start_of c) a) (edit t o x) (bare (some []))) c = replace_in a b t o c (omega arith) in
          rw (ne_eqb y b e, eq-eqb (start_of c) y s) (ap₂ (λ x l. x ∷ l) (sym (d ∙ rw (ne_eqb (start_of c) a (λ j. omega arith)))) r)
        where
          part : start_of c ≡ y → (d : Chunk) → (Inside a y (start_of d) → ⊥) → 1 ≤ sum (covers (start_of d)) cs → Inside a (end_of c) (start_of d) → Dec (start_of d < y) → ⊥
          part s d q u i (yes g) = q (i.0, g)
          part s d q u i (no g) = omega (arith, one (start_of d), covers_in (start_of d) c (omega arith, i.1))

  walk_replaces : (cs : List Chunk) → a < b → Once cs → All Proper cs → ascends_from a b cs ≡ true → (update_walk a b t o cs).chunks ≡ map (acted (replace a b t o)) cs
  walk_replaces [] ab one pr h = clash h refl
  walk_replaces (c ∷ cs) ab one pr h = go (ℕ_discrete (start_of c) a) (walk_replaces cs ab (once_rest c cs one) (rest_of pr))
    where
      go : Dec (start_of c ≡ a) → (ascends_from a b cs ≡ true → (update_walk a b t o cs).chunks ≡ map (acted (replace a b t o)) cs) →
          (update_walk a b t o (c ∷ cs)).chunks ≡ map (acted (replace a b t o)) (c ∷ cs)
      go (yes e) ih =
          let f : ascends (end_of c) b cs ≡ true = rw (eq-eqb (start_of c) a e) at h in
          let p : start_of c < end_of c = first_of pr in
          let m : (d : Chunk) → 1 ≤ sum (covers (start_of d)) cs → Inside a (end_of c) (start_of d) → ⊥ = λ d u i. omega (arith, one (start_of d), covers_in (start_of d) c (omega arith)) in
          let r : (clear_run (end_of c) b cs).chunks ≡ map (acted (replace a b t o)) cs = run_chunks (end_of c) cs (omega arith) (once_rest c cs one)
          (rest_of pr) (all_map m (self_covered (rest_of pr))) f in
          let d : acted (replace a b t o) c ≡ with_texts (λ x. cond (eqb (start_of c) a) (edit t o x) (bare (some []))) c = replace_in a b t o c (omega arith) in
          rw (eq-eqb (start_of c) a e, run_done (end_of c) b cs, f) (ap₂ (λ x l. x ∷ l) (sym (d ∙ rw (eq-eqb (start_of c) a e))) r)
      go (no e) ih =
          let k : ascends_from a b cs ≡ true = rw (ne_eqb (start_of c) a e) at h in
          let p : start_of c < end_of c = first_of pr in
          let g : Together a b cs = together_of a b cs (rest_of pr) (sym (ascends_from_is_together a b cs (λ q. omega arith) (once_rest c cs one) (rest_of pr)) ∙ k) in
          let n : Inside a b (start_of c) → ⊥ = λ i. omega (arith, one (start_of c), covers_in (start_of c) c (omega arith), together_cover a b (start_of c) cs g i.0 i.1) in
          rw (ne_eqb (start_of c) a e) (ap₂ (λ x l. x ∷ l) (sym (replace_out a b t o c n)) (ih k))

-- ── refused: the chunks passed so far are cleared ──
abbrev cleared_if : (Chunk → Bool) → Chunk → Chunk
cleared_if g d = with_texts (λ x. cond (g d) (bare (some [])) x) d

cleared_in : (g : Chunk → Bool) (d : Chunk) → g d ≡ true → with_texts (edit [] true) d ≡ cleared_if g d
cleared_in g d e = rw e

cleared_out : (g : Chunk → Bool) (d : Chunk) → g d ≡ false → d ≡ cleared_if g d
cleared_out g d e = rw e

cleared_not : (g : Chunk → Bool) {cs : List Chunk} → All (λ d. g d ≡ false) cs → cs ≡ map (cleared_if g) cs
cleared_not g h = sym (map_none (cleared_if g) (all_map (λ d e. rw e) h))

cleared_same : (g k : Chunk → Bool) {cs : List Chunk} → All (λ d. g d ≡ k d) cs → map (cleared_if g) cs ≡ map (cleared_if k) cs
cleared_same g k h = map_same (cleared_if g) (cleared_if k) (all_map (λ d e. rw e) h)

ascends_self : (y : ℕ) (cs : List Chunk) → ascends y y cs ≡ true
ascends_self y [] = eq-eqb y y refl
ascends_self y (c ∷ cs) = rw (eq-eqb y y refl)

run_cleared : (y b : ℕ) (cs : List Chunk) → Once cs → All Proper cs → All (λ d. end_of d ≡ y → ⊥) cs → ascends y b cs ≡ false →
    (clear_run y b cs).chunks ≡ map (cleared_if (λ d. ascends y (end_of d) cs)) cs
run_cleared y b [] one pr n h = refl
run_cleared y b (c ∷ cs) one pr n h = go (ℕ_discrete y b) (ℕ_discrete (start_of c) y) (run_cleared (end_of c) b cs (once_rest c cs one) (rest_of pr) (one_end c cs one pr))
  where
    go : Dec (y ≡ b) → Dec (start_of c ≡ y) → (ascends (end_of c) b cs ≡ false → (clear_run (end_of c) b cs).chunks ≡ map (cleared_if (λ d. ascends (end_of c) (end_of d) cs)) cs)
        → (clear_run y b (c ∷ cs)).chunks ≡ map (cleared_if (λ d. ascends y (end_of d) (c ∷ cs))) (c ∷ cs)
    go (yes e) _ ih = clash (rw (eq-eqb y b e)) h
    go (no e) (yes s) ih =
        let f : ascends (end_of c) b cs ≡ false = rw (ne_eqb y b e, eq-eqb (start_of c) y s) at h in
        let w : (d : Chunk) → (end_of d ≡ y → ⊥) → ascends (end_of c) (end_of d) cs ≡ ascends y (end_of d) (c ∷ cs) = λ d k. rw (ne_eqb y (end_of d) (λ j. k (sym j)), eq-eqb (start_of c) y s) in
        let first : ascends y (end_of c) (c ∷ cs) ≡ true = sym (w c (first_of n)) ∙ ascends_self (end_of c) cs in
        let left : (clear_run y b (c ∷ cs)).chunks ≡ with_texts (edit [] true) c ∷ (clear_run (end_of c) b cs).chunks = rw (ne_eqb y b e, eq-eqb (start_of c) y s) in
        left
        ∙ ap₂ (λ x l. x ∷ l) (cleared_in (λ d. ascends y (end_of d) (c ∷ cs)) c first)
        (ih f ∙ cleared_same (λ d. ascends (end_of c) (end_of d) cs) (λ d. ascends y (end_of d) (c ∷ cs)) (all_map w (rest_of n)))
    go (no e) (no s) ih =
        let w : (d : Chunk) → (end_of d ≡ y → ⊥) → ascends y (end_of d) (c ∷ cs) ≡ false = λ d k. rw (ne_eqb y (end_of d) (λ j. k (sym j)), ne_eqb (start_of c) y s) in
        let left : (clear_run y b (c ∷ cs)).chunks ≡ c ∷ cs = rw (ne_eqb y b e, ne_eqb (start_of c) y s) in
        left ∙ cleared_not (λ d. ascends y (end_of d) (c ∷ cs)) (all_map w n)

abbrev passed : ℕ → List Chunk → Chunk → Bool
passed a cs d = ltb a (start_of d) && ascends_from a (end_of d) cs

walk_clears : (a b : ℕ) (t : Text) (o : Bool) (cs : List Chunk) → Once cs → All Proper cs → ascends_from a b cs ≡ false → (update_walk a b t o cs).chunks ≡ map (cleared_if (passed a cs)) cs
walk_clears a b t o [] one pr h = refl
walk_clears a b t o (c ∷ cs) one pr h = go (ℕ_discrete (start_of c) a) (walk_clears a b t o cs (once_rest c cs one) (rest_of pr))
  where
    p : start_of c < end_of c
    p = first_of pr

    -- a chunk behind c in the list: one that starts before a is not reached, since c covers the byte at a
    behind : start_of c ≡ a → (d : Chunk) → ((x : ℕ) → Inside (start_of d) (end_of d) x → 1 ≤ sum (covers x) cs) → ascends (end_of c) (end_of d) cs ≡ passed a (c ∷ cs) d
    behind e d u = side (dec_lt a (start_of d))
      where
        early : start_of d ≤ a → ascends (end_of c) (end_of d) cs ≡ true → ⊥
        early k h = omega (arith, one a, covers_in a c (omega (arith, p)), u a (k, omega (arith, p, ascends_le (end_of c) (end_of d) (rest_of pr) h)))

        side : Dec (a < start_of d) → ascends (end_of c) (end_of d) cs ≡ passed a (c ∷ cs) d
        side (yes l) = rw (lt-ltb a (start_of d) l, eq-eqb (start_of c) a e)
        side (no l) = rw (le-ltb a (start_of d) (omega arith)) (false_of (ascends (end_of c) (end_of d) cs) (λ h. h) (early (omega arith)))

    -- c stands before the first chunk of the range, and is not reached
    before : (start_of c ≡ a → ⊥) → passed a (c ∷ cs) c ≡ false
    before e = rw (ne_eqb (start_of c) a e) (side (dec_lt a (start_of c)))
      where
        reached : a < start_of c → ascends_from a (end_of c) cs ≡ true → ⊥
        reached l h =
            let g : Together a (end_of c) cs = together_of a (end_of c) cs (rest_of pr)
            (sym (ascends_from_is_together a (end_of c) cs (λ q. omega (arith, p)) (once_rest c cs one) (rest_of pr)) ∙ h) in
            omega (arith, one (end_of c - 1), covers_in (end_of c - 1) c (omega (arith, p)), together_cover a (end_of c) (end_of c - 1) cs g (omega (arith, p)) (omega (arith, p)))

        side : Dec (a < start_of c) → ltb a (start_of c) && ascends_from a (end_of c) cs ≡ false
        side (yes l) = rw (lt-ltb a (start_of c) l) (false_of (ascends_from a (end_of c) cs) (λ h. h) (reached l))
        side (no l) = rw (le-ltb a (start_of c) (omega arith))

    go : Dec (start_of c ≡ a) → (ascends_from a b cs ≡ false → (update_walk a b t o cs).chunks ≡ map (cleared_if (passed a cs)) cs) →
        (update_walk a b t o (c ∷ cs)).chunks ≡ map (cleared_if (passed a (c ∷ cs))) (c ∷ cs)
    go (yes e) ih =
        let f : ascends (end_of c) b cs ≡ false = rw (eq-eqb (start_of c) a e) at h in
        let left : (update_walk a b t o (c ∷ cs)).chunks ≡ c ∷ (clear_run (end_of c) b cs).chunks = rw (eq-eqb (start_of c) a e, run_done (end_of c) b cs, f) in
        left
        ∙ ap₂ (λ x l. x ∷ l) (cleared_out (passed a (c ∷ cs)) c (rw (le-ltb a (start_of c) (omega arith))))
        (run_cleared (end_of c) b cs (once_rest c cs one) (rest_of pr) (one_end c cs one pr) f
        ∙ cleared_same (λ d. ascends (end_of c) (end_of d) cs) (passed a (c ∷ cs)) (all_map (behind e) (member_covers cs)))
    go (no e) ih =
        let k : ascends_from a b cs ≡ false = rw (ne_eqb (start_of c) a e) at h in
        let left : (update_walk a b t o (c ∷ cs)).chunks ≡ c ∷ (update_walk a b t o cs).chunks = rw (ne_eqb (start_of c) a e) in
        left ∙ ap₂ (λ x l. x ∷ l) (cleared_out (passed a (c ∷ cs)) c (before e)) (ih k ∙ cleared_same (passed a cs) (passed a (c ∷ cs)) {cs = cs} (all_of (λ d. rw (ne_eqb (start_of c) a e)) cs))

walk_leaves : (a b : ℕ) (t : Text) (o : Bool) (cs : List Chunk) → Once cs → All Proper cs → ascends_from a b cs ≡ false → (update_walk a b t o cs).chunks ≡ map (cleared_so_far a cs) cs
walk_leaves a b t o cs one pr h =
    walk_clears a b t o cs one pr h
    ∙ cleared_same (passed a cs) (λ d. ltb a (start_of d) && stands_together a (end_of d) cs) (all_map same pr)
  where
    same : (d : Chunk) → Proper d → passed a cs d ≡ ltb a (start_of d) && stands_together a (end_of d) cs
    same d p = side (dec_lt a (start_of d))
      where
        side : Dec (a < start_of d) → passed a cs d ≡ ltb a (start_of d) && stands_together a (end_of d) cs
        side (yes l) = rw (ascends_from_is_together a (end_of d) cs (λ e. omega arith) one pr)
        side (no l) = rw (le-ltb a (start_of d) (omega arith))

-- ── the step behind the cuts ──
-- accepted exactly if the range stands together; else 7, with the chunks cleared so far
pub update_chunks_closed : (a b : ℕ) (t : Text) (o : Bool) (m : MagicString) → a < b → Once m.chunks → All Proper m.chunks
    → update_chunks a b t o m ≡ cond (stands_together a b m.chunks) (ok (with_chunks m (map (acted (replace a b t o)) m.chunks)))
    (err 7 (with_chunks m (map (cleared_so_far a m.chunks) m.chunks)))
unfolding update_chunks
update_chunks_closed a b t o m ab one pr = go (bool_cases (ascends_from a b m.chunks))
  where
    same : ascends_from a b m.chunks ≡ stands_together a b m.chunks
    same = ascends_from_is_together a b m.chunks (λ e. omega arith) one pr

    go : (ascends_from a b m.chunks ≡ true) ⊎ (ascends_from a b m.chunks ≡ false) → update_chunks a b t o m ≡ cond (stands_together a b m.chunks)
        (ok (with_chunks m (map (acted (replace a b t o)) m.chunks))) (err 7 (with_chunks m (map (cleared_so_far a m.chunks) m.chunks)))
    go (inl h) = rw (walk_done a b t o m.chunks, ← same, h, walk_replaces a b t o m.chunks ab one pr h)
    go (inr h) = rw (walk_done a b t o m.chunks, ← same, h) (ap (λ cs. err 7 (with_chunks m cs)) (walk_leaves a b t o m.chunks one pr h))
