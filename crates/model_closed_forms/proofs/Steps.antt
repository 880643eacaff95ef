-- The theorem: on a well-formed desk the Rust's steps of an edit of L, walk by walk, are its closed form, number and desk, refusals included.
use Prim.Native.Nat.{ℕ, ◌≤◌, ◌<◌}
use native.Mathlib.Omega.{arith}
use native.Mathlib.Decide.{dec_lt, ℕ_discrete}
use mathlib.Core.Path.{◌≡◌, refl, ap, sym, ◌∙◌}
use mathlib.Core.Bool.{Bool, true, false, ◌&&◌, cond}
use mathlib.Core.List.{List, [], ◌∷◌}
use mathlib.Core.Option.{none, some}
use mathlib.Core.Logic.{◌⊎◌, inl, inr}
use lib.Dec.{ltb, leb}
use lib.ListN.{length}
use borrow.Author.Tests.{ltb-false, eq-eqb, ne_eqb, lt-ltb, le-ltb}
use Rattle.utf8.specs.Chars.{All}
use Rattle.model.specs.Text.{Text}
use Rattle.model.specs.Chunk.{Chunk}
use Rattle.model.specs.MagicString.{MagicString, ok, err, with_chunks}
use Rattle.model.specs.Frozen.{has_frozen, unless_guarded}
use Rattle.model.specs.Update.{update_chunks}
use Rattle.model.specs.Update as update_rs
use Rattle.model.specs.Movement.{segment, move_segment}
use Rattle.model.specs.Movement as movement_rs
use Rattle.model.specs.Reset as reset_rs
use Rattle.model.specs.Call.{Edit, remove, update_with, reset, insert, append, prepend, relocate, trim, trim_start, trim_end}
use Rattle.model.specs.Call.{trim_lines, indent_with, freeze, steps, listed}
use Rattle.model.specs.Insert.{left, right, front, back}
use Rattle.model.specs.WellFormed.{Formed}
use Rattle.model.proofs.Lists.{clash, bool_cases, all_of, map_none}
use Rattle.model_closed_forms.specs.Plan.{replace, move, plan, refused_first, cut_all, cuts, rearrange, act, acted, on_head, on_tail, in_order, order_number}
use Rattle.model_closed_forms.specs.Plan.{stands_together, left_over, ends_past, frozen_in, closed_plan, closed}
use Rattle.model_closed_forms.specs.Spans.{Proper, Cover, empty, tiled}
use Rattle.model_closed_forms.proofs.Spans.{formed_cover}
use Rattle.model_closed_forms.proofs.SplitAt.{cover_once, cover_cut_all, after_cuts, cuts_then_step}
use Rattle.model_closed_forms.proofs.ByPlan.{nothing_is_closed, whole_is_closed, clear_is_closed, insert_is_closed}
use Rattle.model_closed_forms.proofs.UpdateWalk.{update_chunks_closed}
use Rattle.model_closed_forms.proofs.MoveWalk.{move_segment_closed}

-- the spans over a source that is not empty
pub cover_proper : {s : Text} {cs : List Chunk} → Cover s cs → 0 < length s → All Proper cs
cover_proper (empty z t) h = absurd (omega arith)
cover_proper (tiled l t) h = t.proper

-- ── edits of a range, past their tests ──
replace_is_closed : (a b : ℕ) (t : Text) (o : Bool) (m : MagicString) → a < b → Cover m.source m.chunks → update_rs.update_with has_frozen a b t o m ≡ closed_plan (replace a b t o) m
unfolding update_rs.update_with has_frozen cuts ends_past frozen_in in_order order_number left_over on_head on_tail rearrange
replace_is_closed a b t o m ab v =
    rw (ne_eqb a b (λ e. omega arith), le-ltb b a (omega arith))
    (cuts_then_step (replace a b t o) (λ m. cond (ltb (length m.source) b) (err 10 m) (unless_guarded has_frozen a b m (update_chunks a b t o m))) m v
    (go (bool_cases (ltb (length m.source) b))))
  where
    cs : List Chunk
    cs = cut_all (a ∷ b ∷ []) m.chunks

    m' : MagicString
    m' = with_chunks m cs

    v' : Cover m.source cs
    v' = cover_cut_all (a ∷ b ∷ []) v

    go : (ltb (length m.source) b ≡ true) ⊎ (ltb (length m.source) b ≡ false)
        → cond (ltb (length m.source) b) (err 10 m') (unless_guarded has_frozen a b m' (update_chunks a b t o m')) ≡ after_cuts (replace a b t o) m
    go (inl h) = rw h
    go (inr h) =
        let k : b ≤ length m.source = ltb-false (length m.source) b h in
        rw h (ap (unless_guarded has_frozen a b m') (update_chunks_closed a b t o m' ab (cover_once v') (cover_proper v' (omega arith))))

move_is_closed : (a b to : ℕ) (m : MagicString) → leb a to && leb to b ≡ false → a < b → b ≤ length m.source → Cover m.source m.chunks →
    movement_rs.relocate a b to m ≡ closed_plan (move a b to) m
unfolding movement_rs.relocate cuts ends_past frozen_in in_order order_number left_over on_head on_tail rearrange act
move_is_closed a b to m h ab bn v =
    rw (h, ne_eqb a b (λ e. omega arith), le-ltb b a (omega arith), le-ltb (length m.source) b bn)
    (cuts_then_step (move a b to) (λ m. move_segment to m (segment a b m.chunks)) m v
    (move_segment_closed a b to (with_chunks m cs) (λ e. omega arith) (cover_once v') (cover_proper v' (omega arith))
    ∙ ap (λ l. cond (stands_together a b cs) (ok (with_chunks m (rearrange (move a b to) l))) (err 9 (with_chunks m cs))) (sym (map_none (acted (move a b to)) (all_of (λ c. refl) cs)))))
  where
    cs : List Chunk
    cs = cut_all (a ∷ b ∷ to ∷ []) m.chunks

    v' : Cover m.source cs
    v' = cover_cut_all (a ∷ b ∷ to ∷ []) v

-- ── the edits of a range, with their tests ──
remove_closed : (a b : ℕ) (m : MagicString) → Cover m.source m.chunks → movement_rs.remove has_frozen a b m ≡ closed (remove a b) m
unfolding movement_rs.remove closed refused_first plan
remove_closed a b m v = go (ℕ_discrete a b) (dec_lt b a)
  where
    go : Dec (a ≡ b) → Dec (b < a) → movement_rs.remove has_frozen a b m ≡ closed (remove a b) m
    go (yes e) _ = rw (eq-eqb a b e) (nothing_is_closed m)
    go (no e) (yes l) = rw (ne_eqb a b e, lt-ltb b a l)
    go (no e) (no l) = rw (ne_eqb a b e, le-ltb b a (omega arith)) (clear_is_closed (some []) a b m (omega arith) v)

reset_closed : (a b : ℕ) (m : MagicString) → Cover m.source m.chunks → reset_rs.reset has_frozen a b m ≡ closed (reset a b) m
unfolding reset_rs.reset closed refused_first plan
reset_closed a b m v = go (ℕ_discrete a b) (dec_lt b a) (dec_lt (length m.source) b)
  where
    go : Dec (a ≡ b) → Dec (b < a) → Dec (length m.source < b) → reset_rs.reset has_frozen a b m ≡ closed (reset a b) m
    go (yes e) _ _ = rw (eq-eqb a b e) (nothing_is_closed m)
    go (no e) (yes l) _ = rw (ne_eqb a b e, lt-ltb b a l)
    go (no e) (no l) (yes k) = rw (ne_eqb a b e, le-ltb b a (omega arith), lt-ltb (length m.source) b k)
    go (no e) (no l) (no k) = rw (ne_eqb a b e, le-ltb b a (omega arith), le-ltb (length m.source) b (omega arith)) (clear_is_closed none a b m (omega arith) v)

update_closed : (a b : ℕ) (t : Text) (o : Bool) (m : MagicString) → Cover m.source m.chunks → update_rs.update_with has_frozen a b t o m ≡ closed (update_with a b t o) m
unfolding update_rs.update_with closed refused_first plan
update_closed a b t o m v = go (ℕ_discrete a b) (dec_lt b a)
  where
    go : Dec (a ≡ b) → Dec (b < a) → update_rs.update_with has_frozen a b t o m ≡ closed (update_with a b t o) m
    go (yes e) _ = rw (eq-eqb a b e)
    go (no e) (yes l) = rw (ne_eqb a b e, lt-ltb b a l)
    go (no e) (no l) = replace_is_closed a b t o m (omega arith) v ∙ rw (ne_eqb a b e, le-ltb b a (omega arith))

relocate_closed : (a b to : ℕ) (m : MagicString) → Cover m.source m.chunks → movement_rs.relocate a b to m ≡ closed (relocate a b to) m
unfolding movement_rs.relocate closed refused_first plan
relocate_closed a b to m v = go (bool_cases (leb a to && leb to b)) (ℕ_discrete a b) (dec_lt b a) (dec_lt (length m.source) b)
  where
    go : (leb a to && leb to b ≡ true) ⊎ (leb a to && leb to b ≡ false) → Dec (a ≡ b) → Dec (b < a) → Dec (length m.source < b) → movement_rs.relocate a b to m ≡ closed (relocate a b to) m
    go (inl h) _ _ _ = rw h
    go (inr h) (yes e) _ _ = rw (h, eq-eqb a b e) (nothing_is_closed m)
    go (inr h) (no e) (yes l) _ = rw (h, ne_eqb a b e, lt-ltb b a l)
    go (inr h) (no e) (no l) (yes k) = rw (h, ne_eqb a b e, le-ltb b a (omega arith), lt-ltb (length m.source) b k)
    go (inr h) (no e) (no l) (no k) =
        move_is_closed a b to m h (omega arith) (omega arith) v
        ∙ rw (h, ne_eqb a b e, le-ltb b a (omega arith), le-ltb (length m.source) b (omega arith))

-- ── the theorem ──
pub steps_cover : (e : Edit) (m : MagicString) → listed e ≡ true → Cover m.source m.chunks → steps e m ≡ closed e m
unfolding closed refused_first plan
steps_cover (remove a b) m h v = remove_closed a b m v
steps_cover (update_with a b t o) m h v = update_closed a b t o m v
steps_cover (reset a b) m h v = reset_closed a b m v
steps_cover (insert p t left front) m h v = insert_is_closed p t left front m v
steps_cover (append t) m h v = whole_is_closed right back t m
steps_cover (prepend t) m h v = whole_is_closed left front t m
steps_cover (relocate a b to) m h v = relocate_closed a b to m v
steps_cover (trim p) m h v = clash h refl
steps_cover (trim_start p) m h v = clash h refl
steps_cover (trim_end p) m h v = clash h refl
steps_cover trim_lines m h v = clash h refl
steps_cover (indent_with i l) m h v = clash h refl
steps_cover (freeze a b) m h v = clash h refl

pub steps_are_closed : (e : Edit) (m : MagicString) → listed e ≡ true → Formed m → steps e m ≡ closed e m
steps_are_closed e m h f = steps_cover e m h (formed_cover f)
