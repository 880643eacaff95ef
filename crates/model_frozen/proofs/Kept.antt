-- Cuts, other texts on chunks without a mark, another order and more marks keep what a byte's chunk shows.
use Prim.Native.Nat.{ℕ, ◌≤◌, ◌<◌}
use native.Mathlib.Omega.{arith}
use mathlib.Core.Path.{◌≡◌}
use mathlib.Core.Bool.{Bool, true, false, ◌&&◌, cond}
use mathlib.Core.List.{List, [], ◌∷◌}
use mathlib.Core.Option.{Option}
use lib.Dec.{ltb, leb, eqb}
use borrow.Author.Tests.{eqb-true, eqb-false}
use Rattle.utf8.specs.Chars.{All, nil, cons}
use Rattle.model.specs.Text.{Text, all}
use Rattle.model.specs.Chunk.{Chunk, Texts, with_texts, start_of, end_of, first_half, second_half, edit}
use Rattle.model.specs.MagicString.{MagicString, Result, with_chunks}
use Rattle.model.specs.Frozen.{starts_within, freeze_chunk}
use Rattle.model.specs.Insert.{push_to}
use Rattle.model.specs.Update.{Walk, clear_run, update_walk}
use Rattle.model.specs.WellFormed.{covers}
use Rattle.model.proofs.Lists.{clash, or_right, one_most}
use Rattle.model.proofs.Spans.{covers_halves}
use Rattle.model_closed_forms.specs.Plan.{cut_all, splittable, cuttable, cut_until_refused}
use Rattle.model_closed_forms.specs.Spans.{Cover}
use Rattle.model_closed_forms.specs.SplitAt.{cuts_then}
use Rattle.model_closed_forms.proofs.Cuts.{Contains, ends_by, cut_keeps, cut_all_keeps, Aligned, cut_all_aligned}
use Rattle.model_closed_forms.proofs.Spans.{Inside, inside_true}
use Rattle.model_closed_forms.proofs.SplitAt.{cover_cut_all, cuts_then_closed}
use Rattle.model_preservation.proofs.Lists.{of_cond}

pub covers_most : (x : ℕ) (c : Chunk) → covers x c ≤ 1
unfolding covers
covers_most x c = one_most (leb (start_of c) x && ltb x (end_of c))

-- a chunk that does not contain the end of a range, and is not a marked one of the range
pub record Free (a b : ℕ) (c : Chunk) : Type 0 where
  pub ordered : start_of c ≤ end_of c
  pub aligned : Contains b c → ⊥
  pub unmarked : starts_within a b c && c.frozen ≡ false

module _ (x : ℕ) (replacement : Option Text) where
  -- if the chunk has the byte, it is marked and shows this
  abbrev pub Kept : Chunk → Type 0
  Kept c = covers x c ≡ 1 → (c.frozen ≡ true) × (c.texts.edited_content ≡ replacement)

  abbrev pub KeptIn : Result → Type 0
  KeptIn r = All Kept r.desk.chunks

  -- ── cuts ──
  halves_kept : (p : ℕ) (c : Chunk) → Kept c → Contains p c → Kept (first_half p c) × Kept (second_half p c)
  halves_kept p c k i =
      let s = covers_halves x p c i in
      let l = covers_most x c in
      (λ e. k (omega arith), λ e. k (omega arith))

  until_kept : (ps : List ℕ) {cs : List Chunk} → All Kept cs → All Kept (cut_until_refused ps cs)
  until_kept [] h = h
  until_kept (p ∷ ps) {cs} h = of_cond (All Kept) (all (splittable p) cs) (λ _. until_kept ps (cut_keeps p (halves_kept p) h)) (λ _. h)

  -- cuts one after another, and what is done behind them on a list that they have aligned
  pub cuts_kept : (ps : List ℕ) (step : MagicString → Result) (m : MagicString) → Cover m.source m.chunks → All Kept m.chunks
      → ((cs : List Chunk) → Cover m.source cs → All (Aligned ps) cs → All Kept cs → KeptIn (step (with_chunks m cs))) → KeptIn (cuts_then ps step m)
  cuts_kept ps step m v h g =
      rw (cuts_then_closed ps step m v)
      (of_cond KeptIn (cuttable ps m.chunks)
      (λ _. g (cut_all ps m.chunks) (cover_cut_all ps v) (cut_all_aligned ps m.chunks) (cut_all_keeps halves_kept ps h)) (λ _. until_kept ps h))

  -- ── other texts ──
  -- where a test takes no marked chunk
  pub unmarked_kept : (b : Bool) (f : Texts → Texts) (c : Chunk) → b && c.frozen ≡ false → Kept c → Kept (with_texts (λ y. cond b (f y) y) c)
  unfolding covers
  unmarked_kept true f c u k = λ e. clash (k e).0 u
  unmarked_kept false f c u k = k

  -- a piece more
  pub piece_kept : (b left front : Bool) (t : Text) (c : Chunk) → Kept c → Kept (with_texts (λ y. cond b (push_to left front t y) y) c)
  unfolding covers
  piece_kept true left front t c k = k
  piece_kept false left front t c k = k

  -- ── marks ──
  pub freeze_kept : (a b : ℕ) (c : Chunk) → Kept c → Kept (freeze_chunk a b c)
  unfolding covers
  freeze_kept a b c k = λ e. (or_right (starts_within a b c) c.frozen (k e).0, (k e).1)

  -- ── the walk of `update_with` ──
  module _ (a b : ℕ) where
    changed_kept : (f : Texts → Texts) (c : Chunk) → Free a b c → Inside a b (start_of c) → Kept c → Kept (with_texts f c)
    changed_kept f c u i k = unmarked_kept true f c (rw (inside_true a b (start_of c) i) at u.unmarked) k

    clear_kept : (y : ℕ) {cs : List Chunk} → a ≤ y → y ≤ b → All (Free a b) cs → All Kept cs → All Kept (clear_run y b cs).chunks
    clear_kept y l h nil nil = nil
    clear_kept y l h (cons {x = c} {xs = cs} u us) (cons k ks) =
        let P : Walk → Type 0 = λ w. All Kept w.chunks in
        of_cond P (eqb y b) (λ _. cons k ks)
        (λ n. of_cond P (eqb (start_of c) y)
        (λ e. let z : y ≡ b → ⊥ = eqb-false y b n in
        let s : start_of c ≡ y = eqb-true (start_of c) y e in
        let o = u.ordered in
        cons (changed_kept (edit [] true) c u (omega arith) k) (clear_kept (end_of c) (omega arith) (ends_by b c u.aligned (omega arith)) us ks))
        (λ _. cons k ks))

    pub walk_kept : (t : Text) (o : Bool) → a < b → {cs : List Chunk} → All (Free a b) cs → All Kept cs → All Kept (update_walk a b t o cs).chunks
    walk_kept t o ab nil nil = nil
    walk_kept t o ab (cons {x = c} {xs = cs} u us) (cons k ks) =
        of_cond (λ (w : Walk). All Kept w.chunks) (eqb (start_of c) a)
        (λ e. let s : start_of c ≡ a = eqb-true (start_of c) a e in
        let l = u.ordered in
        cons (of_cond Kept (clear_run (end_of c) b cs).done (λ _. changed_kept (edit t o) c u (omega arith) k) (λ _. k))
        (clear_kept (end_of c) (omega arith) (ends_by b c u.aligned (omega arith)) us ks))
        (λ _. cons k (walk_kept t o ab us ks))
