-- `move_range` and `relocate_steps` leave what the model's steps leave.
use mathlib.Core.Path.{◌≡◌, refl, sym, ap, ap₂, ◌∙◌, subst, fun_ext}
use mathlib.Core.Bool.{Bool, true, false, cond}
use mathlib.Core.List.{List, [], ◌∷◌, ◌++◌, map}
use mathlib.Core.Logic.{◌⊎◌, inl, inr, ⊎_elim}
use Prim.Native.Nat.{ℕ, ◌+◌, ◌*◌, ◌≤◌, ◌<◌}
use native.Mathlib.Omega.{arith}
use lib.ListN.{length}
use borrow.Author.Tests.{eqb-true, eqb-false, le-leb}
use Rattle.memory_layout.specs.Layout.{ROW}
use Rattle.utf8.specs.Chars.{All, cons}
use Rattle.memory_table.specs.Ring.{Each}
use Rattle.memory_table.proofs.Ring.{each_map, each_append, each_left, each_right}
use Rattle.memory_table.specs.Order.{Entry, entry_of, entry_at, order, next_of, Linked}
use Rattle.model.specs.Chunk.{Chunk}
use Rattle.model.specs.MagicString.{ok, err, and_then, with_chunks, by_start}
use Rattle.model.specs.Movement.{Segment, together, segment, insert_before, stands_there, move_segment}
use Rattle.memory.specs.Layout.{magic_string_of}
use Rattle.memory.specs.WellFormed.{EntryIn}
use Rattle.memory.proofs.Desks.{each_all}
use Rattle.model_closed_forms.specs.Spans.{Proper}
use Rattle.model_closed_forms.proofs.Spans.{Once}
use Rattle.memory_list.specs.declared.Key.TheVariants.{Start}
use Rattle.memory_list.specs.Find.{meets, First}
use Rattle.memory_list.specs.Insert.{runs_of}
use Rattle.memory_list.proofs.Insert.{start_f}
use Rattle.memory_list.specs.Swap.{last_of}
use Rattle.memory_list.specs.Move.{Parts, swapped, Moved, MoveAt, MoveDone}
use Rattle.edit_row_laws.proofs.Kept.{kept_same, kept_then}
use Rattle.edit_row_laws.proofs.Steps.{move_kept}
use Rattle.edit_split_at.proofs.Lift.{Reordered, still_readable, with_entries}
use Rattle.edit_split_at.specs.Cuts.{CutsDone}
use Rattle.edit_split_at.proofs.Cuts.{cuts_spans, stop}
use Rattle.edit_relocate_range.specs.declared.Range.{Range}
use Rattle.edit_relocate_range.specs.declared.Range.TheVariants.{Whole, Broken, Nothing}
use Rattle.edit_relocate_range.specs.Range.{WholeRange, BrokenRange, RangeIn}
use Rattle.edit_relocate_range.proofs.Segments.{last_in}
use Rattle.edit_relocate_range.proofs.Chunks.{chunks_of_rows, chunks_append, chunks_are, rows_once, rows_proper, NoneEmpty, filled_rows, starts_once, starts_inside}
use Rattle.edit_relocate_steps.specs.Relocated.{PlaceIn, Spanned, Movable, move_step, RangeMoved, RelocateDone}
use Rattle.edit_relocate_steps.proofs.Segment.{None, segment_none, segment_whole, segment_broken}
use Rattle.edit_relocate_steps.proofs.Place.{Goes, goes, stands, not_stands}

-- ── what holds of the swapped parts of a list ──
module _ {P : Entry → Type 0} (g : ℕ → Entry) where
  rows_of : (xs : List ℕ) → All P (map g xs) → Each (λ x. P (g x)) xs
  rows_of [] h = tt
  rows_of (x ∷ xs) (cons h k) = (h, rows_of xs k)

each_swap : (P : ℕ → Type 0) {t : List ℕ} (s : Parts t) → Each P (order t) → Each P (swapped s)
each_swap P s h =
    let u = s.us in
    let A = s.a ∷ s.ws in
    let B = s.b ∷ s.bs in
    let Y = s.ys in
    let g : Each P (u ++ (A ++ (B ++ Y))) = subst (Each P) s.place h in
    let r = each_right P u (A ++ (B ++ Y)) g in
    let q = each_right P A (B ++ Y) r in
    each_append P u (B ++ (A ++ Y)) (each_left P u (A ++ (B ++ Y)) g)
    (each_append P B (A ++ Y) (each_left P B Y q) (each_append P A Y (each_left P A (B ++ Y) r) (each_right P B Y q)))

-- ── behind the cuts ──
stays_put : (a b to : ℕ) (t : List ℕ) (r : ℕ) → ((source p s : List ℕ) → move_step a b to (magic_string_of source t p s) ≡ err r (magic_string_of source t p s)) →
    (r ≡ 0) ⊎ (r ≡ 9) → RangeMoved a b to t t r
stays_put a b to t r f n = record { leave = λ source p s h. record { readable = h; result = f source p s; cuts = omega arith }; number = n; kept = kept_same t }

module _ (a b to : ℕ) (t : List ℕ) where
  as_rows : (source p s : List ℕ) {z : Segment} → segment a b (chunks_of_rows t p s (order t)) ≡ z → move_step a b to (magic_string_of source t p s) ≡ move_segment to (magic_string_of source t p s) z
  as_rows source p s e = ap (move_segment to (magic_string_of source t p s)) (ap (segment a b) (chunks_are source t p s) ∙ e)

  moved_none : None t a (order t) → RangeMoved a b to t t 9
  moved_none n = stays_put a b to t 9 (λ source p s. as_rows source p s (segment_none t p s a b (order t) n)) (inr refl)

  moved_broken : (f l : ℕ) → BrokenRange t a b f l → RangeMoved a b to t t 9
  moved_broken f l w =
      let k = w.walked in
      let e = k.last in
      stays_put a b to t 9
      (λ source p s.
      as_rows source p s
      (ap (λ (x : List ℕ). segment a b (chunks_of_rows t p s x)) k.place
      ∙ segment_broken t p s a b k.us f k.xs k.ys k.none k.here k.follows (λ h. w.short (ap (λ (x : ℕ). (entry_at t x).end) e ∙ h)) (rw e at w.gap)))
      (inr refl)

  -- a range that is not whole, told by its tag
  pub moved_else : (tag : Range → ℕ) → ((f l : ℕ) → tag (Whole f l) ≡ 0) → (r : Range) → RangeIn t a b r → (tag r ≡ 1) ⊎ (tag r ≡ 2) → RangeMoved a b to t t 9
  moved_else tag z (Whole f l) w (inl e) = absurd (omega (arith, z f l))
  moved_else tag z (Whole f l) w (inr e) = absurd (omega (arith, z f l))
  moved_else tag z (Broken f l) w e = moved_broken f l w
  moved_else tag z Nothing w e = moved_none w

  module _ (y : Spanned t) (m : Movable a b to) (f l : ℕ) (w : WholeRange t a b f l) where
    k : Linked t
    k = y.readable.linked

    us : List ℕ
    us = w.walked.us

    xs : List ℕ
    xs = w.walked.xs

    ys : List ℕ
    ys = w.walked.ys

    ends : (entry_at t (last_of f xs)).end ≡ b
    unfolding xs
    ends = sym (ap (λ (x : ℕ). (entry_at t x).end) w.walked.last) ∙ w.ends

    place : order t ≡ us ++ f ∷ (xs ++ ys)
    unfolding us xs ys
    place = w.walked.place

    found : (p s : List ℕ) → segment a b (chunks_of_rows t p s (order t)) ≡ together (chunks_of_rows t p s us) (chunks_of_rows t p s (f ∷ xs)) (chunks_of_rows t p s ys)
    unfolding us xs ys
    found p s =
        ap (λ (x : List ℕ). segment a b (chunks_of_rows t p s x)) place
        ∙ segment_whole t p s a b us f xs ys w.walked.none w.walked.here w.walked.follows ends

    -- no row of the range starts at the place
    away : Each (λ x. (entry_at t x).start ≡ to → ⊥) (f ∷ xs)
    unfolding us xs ys
    away =
        let F : ℕ → Type 0 = λ x. (entry_at t x).start < (entry_at t x).end in
        let o : NoneEmpty t (us ++ ((f ∷ xs) ++ ys)) = subst (NoneEmpty t) place
        (filled_rows t y.pieces y.store (order t) (rows_proper y.source t y.pieces y.store y.spans y.filled)) in
        let i = starts_inside t b f xs (each_left F (f ∷ xs) ys (each_right F us ((f ∷ xs) ++ ys) o)) w.walked.follows in
        each_map (λ x. ((entry_at t f).start ≤ (entry_at t x).start) × ((entry_at t x).start < (entry_at t (last_of f xs)).end)) (λ x. (entry_at t x).start ≡ to → ⊥)
        (λ x h e. inside_not (omega (arith, h.0, w.walked.here)) (omega (arith, h.1, ends))) (f ∷ xs) i
      where
        inside_not : a ≤ to → to ≤ b → ⊥
        inside_not p q = let z : ◌≡◌ {A = ℕ} 0 1 = (let e : ◌≡◌ {A = Bool} true false = sym (rw (le-leb a to p, le-leb to b q) refl) ∙ m.outside in cc) in omega arith

    -- the last row of the range is in the table
    pub moved_row : l * ROW + ROW ≤ length t
    unfolding us xs ys
    moved_row = omega (arith, k.room, w.walked.last, last_in t k us f xs ys place)

    module _ (n : ℕ) (q : PlaceIn t to n) where
      pub moved_there : next_of t l ≡ n → RangeMoved a b to t t 0
      unfolding us xs ys
      moved_there e =
          stays_put a b to t 0
          (λ source p s.
          let d = magic_string_of source t p s in
          as_rows source p s (found p s)
          ∙ ap (λ (z : Bool). cond z (ok d) (ok (with_chunks d (insert_before to (chunks_of_rows t p s (f ∷ xs)) (chunks_of_rows t p s us ++ chunks_of_rows t p s ys)))))
          (ap (λ (cs : List Chunk). stands_there (by_start to cs) (chunks_of_rows t p s ys)) (chunks_are source t p s)
          ∙ stands t k to f us xs ys place p s n (sym (ap (next_of t) w.walked.last) ∙ e) q))
          (inl refl)

      module _ (d : next_of t l ≡ n → ⊥) where
        g : Goes t to f us xs ys (last_of f xs) n
        unfolding us xs ys
        g = goes t k to f us xs ys place away n q (λ h. d (ap (next_of t) w.walked.last ∙ h))

        g_moved : Moved t g.parts f l n
        unfolding xs
        g_moved = subst (λ (x : ℕ). Moved t g.parts f x n) (sym w.walked.last) g.moved

        pub moved_at : MoveAt t f l n
        moved_at = record { parts = g.parts; moved = g_moved }

        only : First (meets Start to) t n → Each (λ x. (entry_at t x).start ≡ to → x ≡ n) ys
        unfolding us xs ys
        only v =
            let Q : ℕ → Type 0 = λ x. (entry_at t x).start ≡ to → x ≡ n in
            let i : (entry_at t n).start ≡ to = eqb-true _ _ v.here in
            let o = subst (λ (l : List ℕ). Once (chunks_of_rows t y.pieces y.store l)) v.place (rows_once y.source t y.pieces y.store y.spans y.filled) in
            let h = subst (λ (l : List ℕ). All Proper (chunks_of_rows t y.pieces y.store l)) v.place (rows_proper y.source t y.pieces y.store y.spans y.filled) in
            let z : Each Q (v.us ++ n ∷ v.bs) =
            each_append Q v.us (n ∷ v.bs) (each_map (λ x. meets Start to (entry_at t x) ≡ false) Q (λ x u e. absurd (eqb-false _ _ u e)) v.us v.none) (
              λ e. refl,
              each_map (λ x. (entry_at t x).start ≡ (entry_at t n).start → ⊥) Q (λ x u e. absurd (u (e ∙ sym i))) v.bs (starts_once t y.pieces y.store v.us n v.bs o h),
            ) in
            each_right Q (f ∷ xs) ys (each_right Q us ((f ∷ xs) ++ ys) (subst (Each Q) (sym v.place ∙ place) z))

        module _ (t' : List ℕ) (c : MoveDone t t' f l n) where
          same_entries : entry_at t' ≡ entry_at t
          same_entries = fun_ext {f = entry_at t'} {g = entry_at t} (λ x. ap entry_of (c.rest x))

          reordered : Reordered t t' (map (entry_at t) (swapped g.parts))
          unfolding g us xs ys
          reordered =
              record {
                linked = c.linked;
                chunks = ap₂ (λ (h : ℕ → Entry) (l : List ℕ). map h l) same_entries (c.place g.parts g_moved);
                desk = ap runs_of (c.rest 0);
              }

          pub moved_done : RangeMoved a b to t t' 0
          unfolding g us xs ys
          moved_done =
              record {
                leave = λ source p s h.
                    let m = magic_string_of source t p s in
                    record {
                      readable =
                          still_readable t p s t' h reordered
                          (each_all (entry_at t) (swapped g.parts) (each_swap (λ x. EntryIn p s (entry_at t x)) g.parts (rows_of (entry_at t) (order t) h.chunks)));
                      result =
                          as_rows source p s (found p s)
                          ∙ ap (λ (z : Bool). cond z (ok m) (ok (with_chunks m (insert_before to (chunks_of_rows t p s (f ∷ xs)) (chunks_of_rows t p s us ++ chunks_of_rows t p s ys)))))
                          (ap (λ (cs : List Chunk). stands_there (by_start to cs) (chunks_of_rows t p s ys)) (chunks_are source t p s)
                          ∙ not_stands t k to f us xs ys place p s n only (λ e. d (ap (next_of t) w.walked.last ∙ e)) q)
                          ∙ ap (λ (cs : List Chunk). ok (with_chunks m cs))
                          (ap (insert_before to (chunks_of_rows t p s (f ∷ xs))) (sym (chunks_append t p s us ys)) ∙ g.result p s)
                          ∙ ap ok (sym (with_entries t p s t' h reordered source));
                      cuts = omega (arith, ap start_f (c.rest 0));
                    };
                number = inl refl;
                kept = move_kept t t' f l n moved_at c;
              }

-- ── the cuts, and what is behind them ──
module _ (a b to : ℕ) (t t' : List ℕ) (r c : ℕ) (d : CutsDone (a ∷ b ∷ to ∷ []) t t' r c) where
  pub rows_refused : (r ≡ 0 → ⊥) → RelocateDone a b to t t' r c
  rows_refused n =
      record {
        leave = λ source p s h v.
            let k = d.leave source p s h v in
            record { readable = k.readable; result = k.result (move_step a b to) ∙ stop r (magic_string_of source t' p s) (move_step a b to) n; cuts = d.count };
        readable = d.readable;
        number = ⊎_elim (λ e. absurd (n e)) (λ e. inr (inl e)) d.number;
        kept = d.kept;
      }

  -- the spans still cover the source
  pub rows_spanned : r ≡ 0 → Spanned t → Spanned t'
  rows_spanned z y =
      let k = d.leave y.source y.pieces y.store y.readable y.spans in
      record {
        source = y.source;
        pieces = y.pieces;
        store = y.store;
        readable = k.readable;
        spans = cuts_spans k z y.spans;
        filled = y.filled;
      }

  pub rows_moved : r ≡ 0 → (t'' : List ℕ) (r' : ℕ) → RangeMoved a b to t' t'' r' → RelocateDone a b to t t'' r' c
  rows_moved z t'' r' v =
      record {
        leave = λ source p s h sp.
            let k = d.leave source p s h sp in
            let u = v.leave source p s k.readable in
            record {
              readable = u.readable;
              result = k.result (move_step a b to) ∙ ap (λ (n : ℕ). and_then (err n (magic_string_of source t' p s)) (move_step a b to)) z ∙ u.result;
              cuts = omega (arith, d.count, u.cuts);
            };
        readable = λ p s h. (v.leave [] p s (d.readable p s h)).readable;
        number = ⊎_elim (λ e. inl e) (λ e. inr (inr e)) v.number;
        kept = kept_then d.kept v.kept;
      }
