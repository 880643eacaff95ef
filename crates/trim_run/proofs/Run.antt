-- Laws of what `Run` in specs/ defines.
use mathlib.Core.Path.{◌≡◌, refl, sym, ap, ap₂, ◌∙◌, subst}
use mathlib.Core.Bool.{Bool, true, false}
use mathlib.Core.List.{List, [], ◌∷◌, ◌++◌, append_assoc, append-nil}
use Prim.Native.Nat.{ℕ, zero, suc, ◌+◌, ◌-◌, ◌≤◌, ◌<◌}
use native.Mathlib.Omega.{arith}
use native.Mathlib.Decide.{ℕ_discrete, dec_lt}
use lib.Dec.{eqb}
use lib.ListN.{length}
use borrow.Author.Tests.{eq-eqb, ne_eqb}
use Rattle.utf8.specs.Rfc3629.{utf8}
use Rattle.utf8.specs.Chars.{All, cons}
use Rattle.utf8.proofs.CharLaws.{all_front, all_back}
use Rattle.memory_table.specs.declared.Piece.{Piece}
use Rattle.memory_table.specs.Pieces as rows
use Rattle.model.specs.Text.{Text, all}
use Rattle.model.specs.WellFormed.{Valid}
use Rattle.memory.specs.Layout.{Place, bytes_at, piece_at, tabulate, run_of}
use Rattle.memory.specs.WellFormed.{RunIn}
use Rattle.memory.proofs.Desks.{no_run}
use Rattle.memory_texts.proofs.Texts.{tabulate_ext, tabulate_cons, run_tabulate}
use Rattle.memory_used.specs.Below.{Below}
use Rattle.memory_copy.proofs.Rows.{Copied, pair}
use Rattle.trim_text.specs.Sides.{trim_text, blank, PlaceTrimmed}
use Rattle.model.proofs.Lists.{tests_append as all_append}
use Rattle.trim_run.specs.Deque.{trim_deque}
use Rattle.trim_run.proofs.Deque.{deque_front, deque_back}
use Rattle.trim_run.specs.Run.{stored_text_at, RunReady, BlankFront, BlankBack, RowRoom, Within, PutTrimmed, RunTrimmed}

-- ---- runs in parts

tabulate_split : {A : Type 0} (f : ℕ → A) (a b : ℕ) → tabulate f (a + b) ≡ tabulate f a ++ tabulate (λ k. f (a + k)) b
tabulate_split f a zero = let e : a + 0 ≡ a = omega arith in rw (e, append-nil)
tabulate_split f a (suc b) =
    let e : a + suc b ≡ suc (a + b) = omega arith in
    rw (e, tabulate_split f a b) (append_assoc (tabulate f a) (tabulate (λ k. f (a + k)) b) (f (a + b) ∷ []))

pub run_split : (p s : List ℕ) (at a b : ℕ) → run_of p s (at, a + b) ≡ run_of p s (at, a) ++ run_of p s (at + a, b)
run_split p s at a b =
    run_tabulate p s at (a + b)
    ∙ tabulate_split (λ k. stored_text_at p s (at + k)) a b
    ∙ ap₂ (λ (x y : List Text). x ++ y) (sym (run_tabulate p s at a))
    (tabulate_ext (λ k. stored_text_at p s (at + (a + k))) (λ k. stored_text_at p s (at + a + k)) b (λ k h. let e : at + (a + k) ≡ at + a + k = omega arith in rw e) ∙ sym (run_tabulate p s (at + a) b))

run_cons : (p s : List ℕ) (at m : ℕ) → run_of p s (at, suc m) ≡ stored_text_at p s at ∷ run_of p s (at + 1, m)
run_cons p s at m =
    let z : at + 0 ≡ at = omega arith in
    run_tabulate p s at (suc m)
    ∙ tabulate_cons (λ k. stored_text_at p s (at + k)) m
    ∙ ap₂ (λ (x : Text) (l : List Text). x ∷ l) (ap (stored_text_at p s) z)
    (tabulate_ext (λ k. stored_text_at p s (at + suc k)) (λ k. stored_text_at p s (at + 1 + k)) m (λ k h. let e : at + suc k ≡ at + 1 + k = omega arith in rw e) ∙ sym (run_tabulate p s (at + 1) m))

-- piece k, and those around it
pub run_mid : (p s : List ℕ) (at k m : ℕ) → run_of p s (at, k + suc m) ≡ run_of p s (at, k) ++ stored_text_at p s (at + k) ∷ run_of p s (at + k + 1, m)
run_mid p s at k m = run_split p s at k (suc m) ∙ ap (λ (l : List Text). run_of p s (at, k) ++ l) (run_cons p s (at + k) m)

-- the same rows elsewhere
run_ext : (p s p' : List ℕ) (at top n : ℕ) → ((j : ℕ) → j < n → piece_at p' (top + j) ≡ piece_at p (at + j)) → run_of p' s (top, n) ≡ run_of p s (at, n)
run_ext p s p' at top n f =
    run_tabulate p' s top n
    ∙ tabulate_ext (λ k. stored_text_at p' s (top + k)) (λ k. stored_text_at p s (at + k)) n (λ k h. ap (bytes_at s) (f k h))
    ∙ sym (run_tabulate p s at n)

head_of : {P : Text → Type 0} {x : Text} {l : List Text} → All P (x ∷ l) → P x
head_of (cons h k) = h

-- a valid run's texts
pub text_valid : (p s : List ℕ) (at n k : ℕ) → All Valid (run_of p s (at, n)) → k < n → utf8 (stored_text_at p s (at + k)) ≡ true
text_valid p s at n k h g =
    let e : n ≡ k + suc (n - (k + 1)) = omega arith in
    head_of (all_back Valid (run_of p s (at, k)) _ (subst (All Valid) (ap (λ (x : ℕ). run_of p s (at, x)) e ∙ run_mid p s at k (n - (k + 1))) h))

-- a part of a run
module _ (p s : List ℕ) (at n a m : ℕ) (h : a + m ≤ n) where
  pub part_ready : RunReady p s (at, n) → RunReady p s (at + a, m)
  unfolding RunIn
  part_ready r =
      let e : n ≡ a + (m + (n - (a + m))) = omega arith in
      let q : run_of p s (at, n) ≡ run_of p s (at, a) ++ (run_of p s (at + a, m) ++ run_of p s (at + a + m, n - (a + m))) =
      ap (λ (x : ℕ). run_of p s (at, x)) e ∙ run_split p s at a (m + (n - (a + m))) ∙ ap (λ (l : List Text). run_of p s (at, a) ++ l) (run_split p s (at + a) m (n - (a + m))) in
      record {
        inside = λ k g. let x : at + a + k ≡ at + (a + k) = omega arith in rw x (r.inside (a + k) (omega arith));
        valid = all_front Valid (run_of p s (at + a, m)) _ (all_back Valid (run_of p s (at, a)) _ (subst (All Valid) q r.valid));
      }

  pub part_room : (top : ℕ) → RowRoom p s at n top → RowRoom p s (at + a) m top
  part_room top r = record { below = omega (arith, r.below); room = omega (arith, r.room); narrow = r.narrow; narrow_store = r.narrow_store }

-- ---- blank pieces, from the front and from the end

module _ (pattern : ℕ) (p s : List ℕ) (at n : ℕ) where
  pub front_none : all (blank pattern) (run_of p s (at, 0)) ≡ true
  front_none = rw (no_run p s at)

  pub front_more : (k : ℕ) → all (blank pattern) (run_of p s (at, k)) ≡ true → blank pattern (stored_text_at p s (at + k)) ≡ true
      → all (blank pattern) (run_of p s (at, k + 1)) ≡ true
  front_more k h e = ap (all (blank pattern)) (run_mid p s at k 0) ∙ all_append (blank pattern) (run_of p s (at, k)) _ ∙ rw (h, e, no_run p s (at + k + 1))

  pub back_none : all (blank pattern) (run_of p s (at + n, n - n)) ≡ true
  back_none = let e : n - n ≡ 0 = omega arith in rw (e, no_run p s (at + n))

  pub back_more : (k : ℕ) → 0 < k → k ≤ n → all (blank pattern) (run_of p s (at + k, n - k)) ≡ true → blank pattern (stored_text_at p s (at + (k - 1))) ≡ true
      → all (blank pattern) (run_of p s (at + (k - 1), n - (k - 1))) ≡ true
  back_more k g l h e =
      let q : n - (k - 1) ≡ suc (n - k) = omega arith in
      let r : at + (k - 1) + 1 ≡ at + k = omega arith in
      rw (q, run_cons p s (at + (k - 1)) (n - k), r, h, e)

-- whether the run is blank
module _ (pattern : ℕ) (p s : List ℕ) (at n k : ℕ) (b : BlankFront pattern p s at n k) where
  pub run_blank : k ≡ n → all (blank pattern) (run_of p s (at, n)) ≡ true
  run_blank e = rw (← e) b.blanks

  pub run_left : k < n → all (blank pattern) (run_of p s (at, n)) ≡ false
  run_left g =
      let e : n ≡ k + suc (n - (k + 1)) = omega arith in
      ap (λ (x : ℕ). all (blank pattern) (run_of p s (at, x))) e
      ∙ ap (all (blank pattern)) (run_mid p s at k (n - (k + 1)))
      ∙ all_append (blank pattern) (run_of p s (at, k)) _
      ∙ rw (b.blanks, b.stop g)

  -- so a run that is not blank has a piece that stays
  pub front_stop : all (blank pattern) (run_of p s (at, n)) ≡ false → k < n
  front_stop h = elim (dec_lt k n) [ yes g ↦ g | no g ↦ let z : ◌≡◌ {A = ℕ} 0 1 = cc (run_blank (omega (arith, b.most))) in absurd (omega arith) ]

  pub run_test : eqb k n ≡ all (blank pattern) (run_of p s (at, n))
  run_test = elim (ℕ_discrete k n) [ yes e ↦ eq-eqb k n e ∙ sym (run_blank e) | no e ↦ ne_eqb k n e ∙ sym (run_left (omega (arith, b.most))) ]

pub back_stop : (pattern : ℕ) (p s : List ℕ) (at n k : ℕ) → BlankBack pattern p s at n k → all (blank pattern) (run_of p s (at, n)) ≡ false → 0 < k
back_stop pattern p s at n k b h =
    elim (dec_lt 0 k) [
      | yes g ↦ g
      | no g ↦
          let z : k ≡ 0 = omega arith in
          let x : at + 0 ≡ at = omega arith in
          let y : n - 0 ≡ n = omega arith in
          let q : all (blank pattern) (run_of p s (at, n)) ≡ true = rw (x, y) at (rw z at b.blanks) in
          let w : ◌≡◌ {A = ℕ} 0 1 = cc in absurd (omega arith)
    ]

-- ---- one piece trimmed

module _ (front : Bool) (pattern : ℕ) (p s p1 p2 : List ℕ) (at n k top : ℕ) (q r : Piece) (g : k < n) (c : Copied p p1 at n top) (e : q ≡ rows.piece_at p (at + k))
    (t : PlaceTrimmed front pattern s q.at q.n r.at r.n) (w : rows.PutPiece p1 p2 (top + k) r) (l : length p2 ≡ length p1) where
  here : piece_at p2 (top + k) ≡ (r.at, r.n)
  here = pair w.here

  old : piece_at p (at + k) ≡ (q.at, q.n)
  old = pair (sym e)

  there : (j : ℕ) → (j ≡ k → ⊥) → j < n → piece_at p2 (top + j) ≡ piece_at p (at + j)
  there j x h = pair (w.off (top + j) (λ y. x (omega arith))) ∙ c.copies j h

  pub put_trimmed : PutTrimmed front pattern p s at n k top p2
  put_trimmed =
      record {
        kept = record { len = l ∙ c.kept.len; rows = λ j h. pair (w.off j (λ y. omega arith)) ∙ c.kept.rows j h };
        text = λ m i.
            let a : run_of p2 s (top, k) ≡ run_of p s (at, k) = run_ext p s p2 at top k (λ j h. there j (λ y. omega arith) (omega arith)) in
            let b : stored_text_at p2 s (top + k) ≡ trim_text front pattern (stored_text_at p s (at + k)) = ap (bytes_at s) here ∙ t.text ∙ ap (λ (x : Place). trim_text front pattern (bytes_at s x)) (sym old) in
            let d : run_of p2 s (top + k + 1, m) ≡ run_of p s (at + k + 1, m) =
            run_ext p s p2 (at + k + 1) (top + k + 1) m
            (λ j h.
            let u : top + k + 1 + j ≡ top + (k + 1 + j) = omega arith in
            let v : at + k + 1 + j ≡ at + (k + 1 + j) = omega arith in
            rw (u, v) (there (k + 1 + j) (λ y. omega arith) (omega arith))) in
            ap (λ (x : ℕ). run_of p2 s (top, x)) i ∙ run_mid p2 s top k m ∙ rw (a, b, d);
        low = λ byte h j i.
            elim (ℕ_discrete j k) [
              | yes y ↦
                  let x = ap (λ (z : Place). z.0 + z.1) (ap (λ (z : ℕ). piece_at p2 (top + z)) y ∙ here) in
                  let v = ap (λ (z : Place). z.0 + z.1) old in
                  (omega arith, omega (arith, t.last, (h k g).1))
              | no y ↦ let x = ap (λ (z : Place). z.0 + z.1) (there j y i) in (omega arith, omega (arith, (h j i).1))
            ];
        part = λ j i.
            elim (ℕ_discrete j k) [
              | yes y ↦ rw y (subst (λ (z : Place). Within z (piece_at p (at + k))) (sym here) (subst (Within (r.at, r.n)) (sym old) (record { first = t.first; last = t.last })))
              | no y ↦ subst (Within (piece_at p2 (top + j))) (there j y i) (record { first = omega arith; last = omega arith })
            ];
      }

below_part : (p : List ℕ) (byte top at n k m : ℕ) → k + m ≤ n → Below p byte top (at, n) → Below p byte top (at + k, m)
below_part p byte top at n k m e h j g =
    let x : at + k + j ≡ at + (k + j) = omega arith in
    rw x (h (k + j) (omega arith))

below_more : (p : List ℕ) (byte top top' : ℕ) (r : Place) → top ≤ top' → Below p byte top r → Below p byte top' r
below_more p byte top top' r e h j g = (omega (arith, (h j g).0), (h j g).1)

-- from the front: the first piece that is not blank
pub trimmed_front : (pattern : ℕ) (p s p' : List ℕ) (at n k top : ℕ) → BlankFront pattern p s at n k → k < n → PutTrimmed true pattern p s (at + k) (n - k) 0 top p'
    → RunTrimmed true pattern p s at n top p' (top, n - k)
trimmed_front pattern p s p' at n k top b g d =
    let m : ℕ = n - (k + 1) in
    let e : n ≡ k + suc m = omega arith in
    let z : at + k + 0 ≡ at + k = omega arith in
    record {
      kept = d.kept;
      text =
          d.text m (omega arith)
          ∙ rw (no_run p s (at + k), z) (sym (ap (λ (x : ℕ). trim_deque true pattern (run_of p s (at, x))) e
          ∙ ap (trim_deque true pattern) (run_mid p s at k m)
          ∙ deque_front pattern (run_of p s (at, k)) (stored_text_at p s (at + k)) (run_of p s (at + k + 1, m)) b.blanks (b.stop g)));
      low = λ byte h. below_more p' byte (top + (n - k)) (top + n) (top, n - k) (omega arith) (d.low byte (below_part p byte top at n k (n - k) (omega (arith, b.most)) h));
      place = refl;
      out = k;
      inside = omega arith;
      part = d.part;
    }

-- from the end: the last one
pub trimmed_back : (pattern : ℕ) (p s p' : List ℕ) (at n k top : ℕ) → BlankBack pattern p s at n k → 0 < k → PutTrimmed false pattern p s at k (k - 1) top p'
    → RunTrimmed false pattern p s at n top p' (top, k)
trimmed_back pattern p s p' at n k top b g d =
    let m : ℕ = n - k in
    let i : ℕ = k - 1 in
    let e : n ≡ i + suc m = omega (arith, b.most) in
    let f : at + i + 1 ≡ at + k = omega arith in
    let z : at + 0 ≡ at = omega arith in
    record {
      kept = d.kept;
      text =
          d.text 0 (omega arith)
          ∙ rw (no_run p s (at + i + 1)) (sym (ap (λ (x : ℕ). trim_deque false pattern (run_of p s (at, x))) e
          ∙ ap (trim_deque false pattern) (run_mid p s at i m)
          ∙ deque_back pattern (run_of p s (at, i)) (stored_text_at p s (at + i)) (run_of p s (at + i + 1, m)) (rw f b.blanks) (b.stop g)));
      low = λ byte h. below_more p' byte (top + k) (top + n) (top, k) (omega (arith, b.most)) (d.low byte (rw z at (below_part p byte top at n 0 k (omega (arith, b.most)) h)));
      place = refl;
      out = 0;
      inside = omega (arith, b.most);
      part = λ j i. rw z (d.part j i);
    }
