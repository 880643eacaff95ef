-- What is frozen stays, edit by edit: a range with a marked chunk is refused behind its cuts, a trim and an indent refuse the desk, insertions, moves and freezing keep what a chunk shows.
use Prim.Native.Nat.{ℕ, ◌≤◌, ◌<◌}
use native.Mathlib.Omega.{arith}
use native.Mathlib.Decide.{dec_lt, ℕ_discrete}
use mathlib.Core.Path.{◌≡◌}
use mathlib.Core.Bool.{Bool, true, false, ◌&&◌, cond}
use mathlib.Core.List.{List, [], ◌∷◌, map}
use mathlib.Core.Option.{Option}
use lib.Dec.{ltb, leb, eqb}
use lib.ListN.{length}
use borrow.Author.Tests.{eqb-false, ltb-false}
use Rattle.utf8.specs.Chars.{All, nil, cons}
use Rattle.model.specs.Text.{Text, any, sum}
use Rattle.model.specs.Chunk.{Chunk, Texts, start_of, end_of, edit, reset_texts}
use Rattle.model.specs.MagicString.{MagicString, Result, ok, err, with_chunks, edge, by_edge, by_start, by_edge_mut}
use Rattle.model.specs.Frozen.{starts_within, has_frozen, any_frozen, unless_guarded, freeze_chunk, freeze_range}
use Rattle.model.specs.Frozen as frozen_parts
use Rattle.model.specs.Insert.{push_to, insert_step}
use Rattle.model.specs.Insert as insertion
use Rattle.model.specs.Update.{update_walk, update_chunks}
use Rattle.model.specs.Update as update_rs
use Rattle.model.specs.Movement.{change_by_position, change_range, Segment, together, apart, segment, stands_there, move_segment}
use Rattle.model.specs.Movement as movement_rs
use Rattle.model.specs.Reset as reset_rs
use Rattle.model.specs.Limits.{Limits, within}
use Rattle.model.specs.WellFormed.{covers, Formed}
use Rattle.model.specs.Call.{Edit, remove, update_with, reset, insert, append, prepend, relocate, trim, trim_start, trim_end, trim_lines, indent_with, freeze}
use Rattle.model.specs.Call.{whole, steps, refused_before, judged, run}
use Rattle.model.proofs.Lists.{clash, or_left, or_right, first_of, rest_of, all_map, all_map₂, any_false, map_keeps}
use Rattle.model.proofs.Spans.{covers_out}
use Rattle.model_closed_forms.specs.Plan.{inside}
use Rattle.model_closed_forms.specs.Spans.{Cover}
use Rattle.model_closed_forms.proofs.Cuts.{Aligned}
use Rattle.model_closed_forms.proofs.Spans.{none_cover, formed_cover}
use Rattle.model_closed_forms.proofs.SplitAt.{cover_once}
use Rattle.model_closed_forms.proofs.Steps.{cover_proper}
use Rattle.model_closed_forms.proofs.ByPosition.{in_range, if_edge, by_position, at_edge_is_map}
use Rattle.model_preservation.proofs.Lists.{of_cond, of_option, of_guard, of_number}
use Rattle.model_preservation.proofs.Spans.{spans_inside, covered_once}
use Rattle.model_preservation.proofs.Relocate.{Parts, segment_parts, insert_rearranged}
use Rattle.model_preservation.proofs.Calls.{not_refused_before, run_formed}
use Rattle.model_frozen.specs.Frozen.{FrozenAt, Some, here, there, FrozenStays, FrozenStaysAfter}
use Rattle.model_frozen.proofs.Kept.{covers_most, Kept, KeptIn, cuts_kept, unmarked_kept, piece_kept, freeze_kept, Free, walk_kept}

-- the tests that lead to the cuts of a range
ordered : (a b : ℕ) → eqb a b ≡ false → ltb b a ≡ false → a < b
ordered a b e l =
    let n : a ≡ b → ⊥ = eqb-false a b e in
    let k = ltb-false b a l in
    omega arith

module _ (x : ℕ) (replacement : Option Text) where
  -- ── some chunk, and every chunk that has the byte ──
  some_covers : {cs : List Chunk} → Some (FrozenAt x replacement) cs → 1 ≤ sum (covers x) cs
  some_covers (here h) = omega (arith, h.byte)
  some_covers (there s) = omega (arith, some_covers s)

  some_marked : {cs : List Chunk} → Some (FrozenAt x replacement) cs → any (λ c. c.frozen) cs ≡ true
  some_marked (here {a = c} {l = cs} h) = or_left c.frozen (any (λ d. d.frozen) cs) h.mark
  some_marked (there {a = c} {l = cs} s) = or_right c.frozen (any (λ d. d.frozen) cs) (some_marked s)

  some_all : {cs : List Chunk} → sum (covers x) cs ≤ 1 → Some (FrozenAt x replacement) cs → All (Kept x replacement) cs
  some_all o (here {a = c} {l = cs} h) =
      let n = none_cover x cs (omega (arith, h.byte)) in
      cons (λ _. (h.mark, h.shows)) (all_map (λ d k e. absurd (omega (arith, covers_out x d k))) n)
  some_all o (there {a = c} {l = cs} s) =
      let k : Kept x replacement c = λ e. absurd (omega (arith, some_covers s)) in
      cons k (some_all (omega arith) s)

  all_some : {cs : List Chunk} → 1 ≤ sum (covers x) cs → All (Kept x replacement) cs → Some (FrozenAt x replacement) cs
  all_some o nil = absurd (omega arith)
  all_some o (cons {x = c} {xs = cs} k ks) =
      elim (ℕ_discrete (covers x c) 1) [
        | yes e ↦ here (record { byte = e; mark = (k e).0; shows = (k e).1 })
        | no n ↦ there (all_some (omega (arith, covers_most x c)) ks)
      ]

  -- ── each edit ──
  abbrev In : Result → Type 0
  In = KeptIn x replacement

  module _ (m : MagicString) (v : Cover m.source m.chunks) (h : All (Kept x replacement) m.chunks) where
    insert_stays : (p : ℕ) (t : Text) (left front : Bool) → In (insertion.insert p t left front m)
    unfolding by_edge_mut
    insert_stays p t left front =
        cuts_kept x replacement (p ∷ []) (insert_step p t left front) m v h
        (λ cs w al k. of_option In (by_edge left p cs) (λ _. k)
        (λ c _. rw (at_edge_is_map left p (push_to left front t) w)
        (map_keeps (if_edge left p (push_to left front t)) (all_map (λ c q. piece_kept x replacement (eqb (edge left c.span) p) left front t c q) k))))

    module _ (a b : ℕ) where
      range_stays : (f : Texts → Texts) → a < b → In (change_range has_frozen f a b m)
      unfolding change_range has_frozen
      range_stays f ab =
          cuts_kept x replacement (a ∷ b ∷ [])
          (λ n. unless_guarded has_frozen a b n (ok (with_chunks n (change_by_position (length n.chunks) f a b n.chunks)))) m v h
          (λ cs w al k. of_cond In (any (λ c. starts_within a b c && c.frozen) cs) (λ _. k)
          (λ u. rw (by_position f a b ab w (all_map (λ c i. first_of i) al))
          (map_keeps (in_range a b f) (all_map₂ (λ c q t. unmarked_kept x replacement (inside a b (start_of c)) f c t q) k (any_false _ cs u)))))

      remove_stays : In (movement_rs.remove has_frozen a b m)
      unfolding movement_rs.remove
      remove_stays = of_cond In (eqb a b) (λ _. h) (λ e. of_cond In (ltb b a) (λ _. h) (λ l. range_stays (edit [] true) (ordered a b e l)))

      reset_stays : In (reset_rs.reset has_frozen a b m)
      unfolding reset_rs.reset
      reset_stays =
          of_cond In (eqb a b) (λ _. h)
          (λ e. of_cond In (ltb b a) (λ _. h)
          (λ l. of_cond In (ltb (length m.source) b) (λ _. h) (λ _. range_stays reset_texts (ordered a b e l))))

      freeze_stays : In (frozen_parts.freeze a b m)
      unfolding frozen_parts.freeze freeze_range
      freeze_stays =
          of_cond In (eqb a b) (λ _. h)
          (λ _. of_cond In (ltb b a) (λ _. h)
          (λ _. of_cond In (ltb (length m.source) b) (λ _. h)
          (λ _. cuts_kept x replacement (a ∷ b ∷ []) (λ n. ok (with_chunks n (map (freeze_chunk a b) n.chunks))) m v h
          (λ cs w al k. map_keeps (freeze_chunk a b) (all_map (λ c q. freeze_kept x replacement a b c q) k)))))

      -- the walk, which goes no further than to the end of the range
      walk_stays : (t : Text) (o : Bool) → a < b → (cs : List Chunk) → All (Free a b) cs → All (Kept x replacement) cs → In (update_chunks a b t o (with_chunks m cs))
      unfolding update_chunks
      walk_stays t o ab cs u k =
          let w = walk_kept x replacement a b t o ab u k in
          of_cond In (update_walk a b t o cs).done (λ _. w) (λ _. w)

      update_stays : (t : Text) (o : Bool) → In (update_rs.update_with has_frozen a b t o m)
      unfolding update_rs.update_with has_frozen
      update_stays t o =
          of_cond In (eqb a b) (λ _. h)
          (λ e. of_cond In (ltb b a) (λ _. h)
          (λ l. cuts_kept x replacement (a ∷ b ∷ [])
          (λ n. cond (ltb (length n.source) b) (err 10 n) (unless_guarded has_frozen a b n (update_chunks a b t o n))) m v h
          (λ cs w al k. of_cond In (ltb (length m.source) b) (λ _. k)
          (λ s. of_cond In (any (λ c. starts_within a b c && c.frozen) cs) (λ _. k) (λ u. walk_stays t o (ordered a b e l) cs (free (ordered a b e l) s cs w al u) k)))))
        where
          free : a < b → ltb (length m.source) b ≡ false → (cs : List Chunk) → Cover m.source cs → All (Aligned (a ∷ b ∷ [])) cs
              → any (λ c. starts_within a b c && c.frozen) cs ≡ false → All (Free a b) cs
          free ab s cs w al u =
              let n = ltb-false (length m.source) b s in
              let p : All (λ c. (start_of c < end_of c) × (starts_within a b c && c.frozen ≡ false)) cs =
              all_map₂ (λ c q t. (q, t)) (cover_proper w (omega arith)) (any_false _ cs u) in
              all_map₂ (λ c i q. record { ordered = omega (arith, q.0); aligned = first_of (rest_of i); unmarked = q.1 }) al p

      move_stays : (to : ℕ) → In (movement_rs.relocate a b to m)
      unfolding movement_rs.relocate
      move_stays to =
          of_cond In (leb a to && leb to b) (λ _. h)
          (λ _. of_cond In (eqb a b) (λ _. h)
          (λ _. of_cond In (ltb b a) (λ _. h)
          (λ _. of_cond In (ltb (length m.source) b) (λ _. h)
          (λ _. cuts_kept x replacement (a ∷ b ∷ to ∷ []) (λ n. move_segment to n (segment a b n.chunks)) m v h
          (λ cs w al k. moved cs (segment a b cs) (segment_parts a b cs) k)))))
        where
          moved : (cs : List Chunk) (g : Segment) → Parts cs g → All (Kept x replacement) cs → In (move_segment to (with_chunks m cs) g)
          moved cs apart e k = k
          moved cs (together before range behind) e k =
              of_cond In (stands_there (by_start to cs) behind) (λ _. k) (λ _. (insert_rearranged to cs before range behind e).every (Kept x replacement) k)

    -- a trim or an indent is not reached on a desk with a mark
    steps_stay : (e : Edit) → any_frozen m ≡ true → whole e && any_frozen m ≡ false → In (steps e m)
    steps_stay (remove a b) s u = remove_stays a b
    steps_stay (update_with a b t o) s u = update_stays a b t o
    steps_stay (reset a b) s u = reset_stays a b
    steps_stay (insert p t left front) s u = insert_stays p t left front
    steps_stay (append t) s u = h
    steps_stay (prepend t) s u = h
    steps_stay (relocate a b to) s u = move_stays a b to
    steps_stay (trim p) s u = clash s u
    steps_stay (trim_start p) s u = clash s u
    steps_stay (trim_end p) s u = clash s u
    steps_stay trim_lines s u = clash s u
    steps_stay (indent_with i l) s u = clash s u
    steps_stay (freeze a b) s u = freeze_stays a b

    run_stays : (k : Limits) (e : Edit) → any_frozen m ≡ true → In (run k e m)
    unfolding run judged
    run_stays k e s =
        of_number In (refused_before m e)
        (λ z. of_guard In (within k (steps e m).desk) (λ _. h) (λ _. steps_stay e s (not_refused_before m e z).unmarked)) (λ _ _. h)

  -- the byte is one of the source
  some_inside : (m : MagicString) → Formed m → Some (FrozenAt x replacement) m.chunks → x < length m.source
  some_inside m f s = go (all_map (λ c i. i.inside) (spans_inside m.source m.chunks f.covered)) s
    where
      go : {cs : List Chunk} → All (λ c. end_of c ≤ length m.source) cs → Some (FrozenAt x replacement) cs → x < length m.source
      go nil x4 = elim x4 [ ]
      go (cons {x = c} i is) (here k) =
          elim (dec_lt x (length m.source)) [
            | yes l ↦ l
            | no n ↦ absurd (omega (arith, k.byte, covers_out x c (λ j. omega arith)))
          ]
      go (cons i is) (there s) = go is s

pub frozen_stays : FrozenStays
unfolding any_frozen
frozen_stays k e m f x replacement s =
    let v = formed_cover f in
    let r = run_formed k e m f in
    let one = covered_once (run k e m).desk.source (run k e m).desk.chunks r.formed.covered x (rw r.source_is (some_inside x replacement m f s)) in
    all_some x replacement (omega (arith, one)) (run_stays x replacement m v (some_all x replacement (cover_once v x) s) k e (some_marked x replacement s))

pub frozen_stays_after : FrozenStaysAfter
frozen_stays_after k [] m f x replacement s = s
frozen_stays_after k (e ∷ L) m f x replacement s = frozen_stays_after k L (run k e m).desk (run_formed k e m f).formed x replacement (frozen_stays k e m f x replacement s)
