-- Laws of what `Refusals` in specs/ defines.
use Prim.Native.Nat.{ℕ, zero, suc, ◌%◌}
use mathlib.Core.Path.{◌≡◌, refl, sym, ap, ◌∙◌, subst}
use mathlib.Core.Bool.{Bool, true, false, ◌&&◌, not, cond, true≢false}
use mathlib.Core.List.{List, [], ◌∷◌, ◌++◌, map}
use lib.Dec.{ltb, leb, eqb}
use lib.ListN.{length}
use borrow.Author.Tests.{eqb-true}
use Rattle.utf8.specs.Rfc3629.{utf8, between}
use Rattle.utf8.specs.Chars.{All, nil, cons}
use Rattle.model.specs.Text.{Text, any, all}
use Rattle.model.proofs.Lists.{bool-elim}
use Rattle.model.specs.WellFormed.{Formed}
use Rattle.model.specs.Chunk.{Texts}
use Rattle.model.specs.MagicString.{MagicString, Result, ok, err, and_then, with_chunks, by_edge, by_start, split_at, split_holder, by_edge_mut}
use Rattle.model.specs.Frozen.{has_frozen, any_frozen, unless_guarded, freeze_chunk, freeze_range}
use Rattle.model.specs.Frozen as frozen_parts
use Rattle.model.specs.Insert.{insert_step}
use Rattle.model.specs.Update.{update_walk, update_chunks}
use Rattle.model.specs.Update as update_rs
use Rattle.model.specs.Movement.{change_by_position, change_range, Segment, together, apart, segment, stands_there, move_segment}
use Rattle.model.specs.Movement as movement_rs
use Rattle.model.specs.Reset as reset_rs
use Rattle.model.specs.Limits.{Limits, within}
use Rattle.model.specs.Call.{Edit, remove, update_with, reset, insert, append, prepend, relocate, trim, trim_start, trim_end}
use Rattle.model.specs.Call.{trim_lines, indent_with, freeze, asked, texts, positions, steps, refused_before, judged, run, edit_numbers, may_change}
use Rattle.model_preservation.proofs.Lists.{of_cond, of_guard, of_option, of_number}
use Rattle.model_preservation.proofs.Desk.{split_cases}
use Rattle.model_preservation.proofs.IndentAccepted.{indent_with_accepted}
use Rattle.model_preservation.specs.Refusals.{among}
use Rattle.model_preservation.specs.Results.{RefusalChangesNothing}

-- ---- steps that give no other number

module _ (e : Edit) where
  abbrev May : Result → Type 0
  May r = may_change e r.number ≡ true

  may_0 : may_change e 0 ≡ true
  may_0 = refl

  may_then : (r : Result) (f : MagicString → Result) → May r → ((m : MagicString) → May (f m)) → May (and_then r f)
  may_then r f h g = go r.number r.desk h
    where
      go : (n : ℕ) (m : MagicString) → may_change e n ≡ true → May (and_then (record { number = n; desk = m }) f)
      go zero m h = g m
      go (suc n) m h = h

  module _ (may-6 : may_change e 6 ≡ true) where
    split_may : (p : ℕ) (m : MagicString) → May (split_at p m)
    split_may p m = split_cases May p m may_0 (λ _. may-6) (λ _. may_0)

    two_cuts_may : (start end : ℕ) (f : MagicString → Result) → ((m : MagicString) → May (f m)) → (m : MagicString)
        → May (and_then (split_at start m) (λ m. and_then (split_at end m) f))
    two_cuts_may start end f g m =
        may_then (split_at start m) (λ n. and_then (split_at end n) f) (split_may start m) (λ n. may_then (split_at end n) f (split_may end n) g)

    change_may : may_change e 20 ≡ true → (f : Texts → Texts) (start end : ℕ) (m : MagicString) → May (change_range has_frozen f start end m)
    unfolding change_range
    change_may may-20 f start end m =
        two_cuts_may start end (λ n. unless_guarded has_frozen start end n (ok (with_chunks n (change_by_position (length n.chunks) f start end n.chunks))))
        (λ n. of_cond May (has_frozen start end n) (λ _. may-20) (λ _. may_0)) m

    freeze_may : (start end : ℕ) (m : MagicString) → May (freeze_range start end m)
    unfolding freeze_range
    freeze_may start end m = two_cuts_may start end (λ n. ok (with_chunks n (map (freeze_chunk start end) n.chunks))) (λ n. may_0) m

  update_may : may_change e 7 ≡ true → (start end : ℕ) (t : Text) (overwrite : Bool) (m : MagicString) → May (update_chunks start end t overwrite m)
  unfolding update_chunks
  update_may may-7 start end t overwrite m = of_cond May (update_walk start end t overwrite m.chunks).done (λ _. may_0) (λ _. may-7)

  move_may : may_change e 9 ≡ true → (to : ℕ) (m : MagicString) (g : Segment) → May (move_segment to m g)
  move_may may-9 to m apart = may-9
  move_may may-9 to m (together before range behind) = of_cond May (stands_there (by_start to m.chunks) behind) (λ _. may_0) (λ _. may_0)

-- ---- what an answer is

-- one of the edit's numbers, and the desk as it was where that number leaves nothing
module _ (e : Edit) (m : MagicString) where
  record Answered (r : Result) : Type 0 where
    number : among r.number (edit_numbers e) ≡ true
    stays : may_change e r.number ≡ false → r.desk ≡ m

  same : (n : ℕ) → among n (edit_numbers e) ≡ true → Answered (err n m)
  same n h = record { number = h; stays = λ _. refl }

  done : {r : Result} → r.number ≡ 0 → Answered r
  done {r} h = record { number = rw h; stays = λ z. let y : may_change e 0 ≡ false = ap (may_change e) (sym h) ∙ z in absurd (true≢false y) }

  -- the numbers that leave something are among its numbers
  may : All (λ n. among n (edit_numbers e) ≡ true) (asked e).leaving → {r : Result} → may_change e r.number ≡ true → Answered r
  may all {r} h = record { number = listed r.number (asked e).leaving all h; stays = λ z. absurd (true≢false (sym h ∙ z)) }
    where
      one : (n x : ℕ) (ns : List ℕ) → eqb n x ≡ true → among x ns ≡ true → among n ns ≡ true
      one n x ns q h = subst (λ (y : ℕ). among y ns ≡ true) (sym (eqb-true n x q)) h

      here : (n : ℕ) (l ns : List ℕ) → All (λ x. among x ns ≡ true) l → any (eqb n) l ≡ true → among n ns ≡ true
      here n [] ns nil h = absurd (true≢false (sym h))
      here n (x ∷ l) ns (cons a b) h = bool-elim (eqb n x) (λ q. one n x ns q a) (λ q. here n l ns b (rw q at h))

      listed : (n : ℕ) (l : List ℕ) → All (λ x. among x (edit_numbers e) ≡ true) l → among n l ≡ true → among n (edit_numbers e) ≡ true
      listed n l a h = bool-elim (eqb n 0) (λ q. rw q) (λ q. here n l (edit_numbers e) a (rw q at h))

-- ---- the steps of an edit

-- a cut made or refused, then what is always accepted
cut_answered : (e : Edit) (p : ℕ) (m : MagicString) (f : MagicString → Result) → among 6 (edit_numbers e) ≡ true → ((n : MagicString) → (f n).number ≡ 0)
    → Answered e m (and_then (split_at p m) f)
cut_answered e p m f h g =
    split_cases (λ r. Answered e m (and_then r f)) p m (done e m (g m)) (λ _. same e m 6 h) (λ _. done e m (g (with_chunks m (split_holder p m.chunks))))

steps_answered : (e : Edit) (m : MagicString) → Formed m → Answered e m (steps e m)
unfolding by_edge_mut movement_rs.remove update_rs.update_with reset_rs.reset movement_rs.relocate frozen_parts.freeze
steps_answered (remove a b) m f =
    let e : Edit = remove a b in
    of_cond (Answered e m) (eqb a b) (λ _. done e m refl)
    (λ _. of_cond (Answered e m) (ltb b a) (λ _. same e m 4 refl)
    (λ _. may e m (cons refl (cons refl nil)) (change_may e refl refl _ a b m)))
steps_answered (update_with a b t o) m f =
    let e : Edit = update_with a b t o in
    of_cond (Answered e m) (eqb a b) (λ _. same e m 5 refl)
    (λ _. of_cond (Answered e m) (ltb b a) (λ _. same e m 4 refl)
    (λ _. may e m (cons refl (cons refl (cons refl (cons refl nil))))
    (two_cuts_may e refl a b (λ n. cond (ltb (length n.source) b) (err 10 n) (unless_guarded has_frozen a b n (update_chunks a b t o n)))
    (λ n. of_cond (May e) (ltb (length n.source) b) (λ _. refl) (λ _. of_cond (May e) (has_frozen a b n) (λ _. refl) (λ _. update_may e refl a b t o n))) m)))
steps_answered (reset a b) m f =
    let e : Edit = reset a b in
    of_cond (Answered e m) (eqb a b) (λ _. done e m refl)
    (λ _. of_cond (Answered e m) (ltb b a) (λ _. same e m 4 refl)
    (λ _. of_cond (Answered e m) (ltb (length m.source) b) (λ _. same e m 10 refl)
    (λ _. may e m (cons refl (cons refl nil)) (change_may e refl refl _ a b m))))
steps_answered (insert p t left front) m f =
    cut_answered (insert p t left front) p m (insert_step p t left front) refl
    (λ n. of_option (λ (r : Result). r.number ≡ 0) (by_edge left p n.chunks) (λ _. refl) (λ c _. refl))
steps_answered (append t) m f = done (append t) m refl
steps_answered (prepend t) m f = done (prepend t) m refl
steps_answered (relocate a b to) m f =
    let e : Edit = relocate a b to in
    of_cond (Answered e m) (leb a to && leb to b) (λ _. same e m 8 refl)
    (λ _. of_cond (Answered e m) (eqb a b) (λ _. done e m refl)
    (λ _. of_cond (Answered e m) (ltb b a) (λ _. same e m 4 refl)
    (λ _. of_cond (Answered e m) (ltb (length m.source) b) (λ _. same e m 10 refl)
    (λ _. may e m (cons refl (cons refl nil))
    (two_cuts_may e refl a b (λ n. and_then (split_at to n) (λ n. move_segment to n (segment a b n.chunks)))
    (λ n. may_then e (split_at to n) (λ n. move_segment to n (segment a b n.chunks)) (split_may e refl to n) (λ o. move_may e refl to o (segment a b o.chunks))) m)))))
steps_answered (trim p) m f = done (trim p) m refl
steps_answered (trim_start p) m f = done (trim_start p) m refl
steps_answered (trim_end p) m f = done (trim_end p) m refl
steps_answered trim_lines m f = done trim_lines m refl
steps_answered (indent_with i l) m f = done (indent_with i l) m (indent_with_accepted i l m f)
steps_answered (freeze a b) m f =
    let e : Edit = freeze a b in
    of_cond (Answered e m) (eqb a b) (λ _. done e m refl)
    (λ _. of_cond (Answered e m) (ltb b a) (λ _. same e m 4 refl)
    (λ _. of_cond (Answered e m) (ltb (length m.source) b) (λ _. same e m 10 refl)
    (λ _. may e m (cons refl nil) (freeze_may e refl a b m))))

-- ---- the call

-- 15, 1, 3 and 20, each only where it is among the numbers
guarded : (b : Bool) (n x : ℕ) (ns : List ℕ) → among n ns ≡ true → among x ns ≡ true → among (cond (not b) n x) ns ≡ true
guarded b n x ns h g = of_guard (λ (y : ℕ). among y ns ≡ true) b (λ _. h) (λ _. g)

-- 1 for the texts, 3 for the positions
text_then : (m : MagicString) (e : Edit) (x : ℕ) → among 1 (edit_numbers e) ≡ true → among 3 (edit_numbers e) ≡ true → among x (edit_numbers e) ≡ true
    → among (cond (not (all utf8 (texts e))) 1 (cond (not (all (between m.source) (positions e))) 3 x)) (edit_numbers e) ≡ true
text_then m e x h g k = guarded (all utf8 (texts e)) 1 _ (edit_numbers e) h (guarded (all (between m.source) (positions e)) 3 x (edit_numbers e) g k)

-- 20 for a marked chunk
marked : (m : MagicString) (ns : List ℕ) → among 20 ns ≡ true → among (cond (any_frozen m) 20 0) ns ≡ true
marked m ns h = of_cond (λ (y : ℕ). among y ns ≡ true) (any_frozen m) (λ _. h) (λ _. refl)

before_listed : (m : MagicString) (e : Edit) → among (refused_before m e) (edit_numbers e) ≡ true
unfolding refused_before
before_listed m (remove a b) = guarded (all (between m.source) (a ∷ b ∷ [])) 3 0 (edit_numbers (remove a b)) refl refl
before_listed m (update_with a b t o) = text_then m (update_with a b t o) 0 refl refl refl
before_listed m (reset a b) = guarded (all (between m.source) (a ∷ b ∷ [])) 3 0 (edit_numbers (reset a b)) refl refl
before_listed m (insert p t left front) = text_then m (insert p t left front) 0 refl refl refl
before_listed m (append t) = guarded (all utf8 (t ∷ [])) 1 0 (edit_numbers (append t)) refl refl
before_listed m (prepend t) = guarded (all utf8 (t ∷ [])) 1 0 (edit_numbers (prepend t)) refl refl
before_listed m (relocate a b to) = guarded (all (between m.source) (a ∷ b ∷ to ∷ [])) 3 0 (edit_numbers (relocate a b to)) refl refl
before_listed m (trim p) = guarded (leb p 1) 15 _ (edit_numbers (trim p)) refl (marked m (edit_numbers (trim p)) refl)
before_listed m (trim_start p) = guarded (leb p 1) 15 _ (edit_numbers (trim_start p)) refl (marked m (edit_numbers (trim_start p)) refl)
before_listed m (trim_end p) = guarded (leb p 1) 15 _ (edit_numbers (trim_end p)) refl (marked m (edit_numbers (trim_end p)) refl)
before_listed m trim_lines = marked m (edit_numbers trim_lines) refl
before_listed m (indent_with i l) =
    guarded (eqb (length l % 2) 0) 15 _ (edit_numbers (indent_with i l)) refl (text_then m (indent_with i l) _ refl refl (marked m (edit_numbers (indent_with i l)) refl))
before_listed m (freeze a b) = guarded (all (between m.source) (a ∷ b ∷ [])) 3 0 (edit_numbers (freeze a b)) refl refl

thirteen_listed : (ns os : List ℕ) → among 13 (ns ++ (13 ∷ os)) ≡ true
thirteen_listed [] os = refl
thirteen_listed (n ∷ ns) os = bool-elim (eqb 13 n) (λ q. rw q) (λ q. rw q (thirteen_listed ns os))

-- an answer is 0 or one of the edit's numbers
pub answer_listed : (k : Limits) (e : Edit) (m : MagicString) → Formed m → among (run k e m).number (edit_numbers e) ≡ true
unfolding run judged
answer_listed k e m f =
    let P : Result → Type 0 = λ r. among r.number (edit_numbers e) ≡ true in
    of_number P (refused_before m e)
    (λ _. of_guard P (within k (steps e m).desk) (λ _. thirteen_listed (asked e).before (asked e).own) (λ _. (steps_answered e m f).number))
    (λ n q. subst (λ (x : ℕ). among x (edit_numbers e) ≡ true) q (before_listed m e))

-- a call that is refused with a number that leaves nothing leaves the desk as it was
pub refusal_changes_nothing : RefusalChangesNothing
unfolding run judged
refusal_changes_nothing k e m f =
    let P : Result → Type 0 = λ r. may_change e r.number ≡ false → r.desk ≡ m in
    of_number P (refused_before m e) (λ _. of_guard P (within k (steps e m).desk) (λ _ _. refl) (λ _. (steps_answered e m f).stays)) (λ n _ _. refl)
