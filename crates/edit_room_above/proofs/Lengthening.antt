-- The rows of a run with a text more: copied to the top with a row more, or left where they end there.
use mathlib.Core.Path.{◌≡◌, refl, ap, ap₂, ◌∙◌}
use mathlib.Core.Bool.{true, false}
use mathlib.Core.List.{List, [], ◌∷◌, ◌++◌}
use Prim.Native.Nat.{ℕ, suc, ◌+◌, ◌*◌, ◌<◌}
use native.Mathlib.Omega.{arith}
use lib.ListN.{length, get_or, take, length-append, get_or-append}
use lib.Seq.{get_or-append-add}
use Rattle.memory_table.specs.Pieces.{with_piece}
use Rattle.memory.specs.Layout.{Place, piece_at}
use Rattle.memory_texts.specs.Over.{over}
use Rattle.memory_texts.proofs.Over.{length_over, over_over, take_over, two_sets}
use Rattle.memory_texts.proofs.Texts.{tabulate_ext, tabulate_cons}
use Rattle.memory_copy.specs.Rows.{row_words}
use Rattle.memory_copy.proofs.Rows.{place_over, words_length, words_kept, words_place, row_kept}
use Rattle.edit_room_above.specs.Run.{TopRoom, Lengthened}

module _ (y x : Place) (row : ℕ) (p : List ℕ) (room : TopRoom x p row) where
  abbrev new : List ℕ
  new = y.0 ∷ y.1 ∷ []

  run_words : length (row_words p x) ≡ x.1 * 2
  run_words = words_length p x (λ k. omega (arith, room.under k, room.rows_in))

  -- ── rows copied behind a new one ──
  module _ (p1 p' : List ℕ) (u : p1 ≡ with_piece p row y.0 y.1) (c : p' ≡ over p1 ((row + 1) * 2) (row_words p1 x)) where
    front_first : p1 ≡ over p (row * 2) new
    front_first = u ∙ two_sets p (row * 2) y.0 y.1 (omega (arith, room.rows_in))

    front_words : p' ≡ over p (row * 2) (new ++ row_words p x)
    front_words =
        let k : row_words p1 x ≡ row_words p x =
        words_kept x row p p1 room.under (ap (take (row * 2)) front_first ∙ take_over p (row * 2) new (omega (arith, room.rows_in))) in
        let a : (row + 1) * 2 ≡ row * 2 + 2 = omega arith in
        c ∙ ap₂ (λ (n : ℕ) (l : List ℕ). over p1 n l) a k
        ∙ ap (λ (l : List ℕ). over l (row * 2 + 2) (row_words p x)) front_first
        ∙ over_over p (row * 2) new (row_words p x) (omega (arith, room.rows_in, run_words))

    front_new : piece_at p' (row + 0) ≡ y
    front_new = ap (λ (l : List ℕ). piece_at l (row + 0)) front_words ∙ place_over p (new ++ row_words p x) row 0 (omega (arith, room.rows_in)) (omega arith)

    front_old : (k : ℕ) → k < x.1 → piece_at p' (row + suc k) ≡ piece_at p (x.0 + k)
    front_old k h =
        let e : suc k * 2 ≡ suc (suc (k * 2)) = omega arith in
        let f : suc k * 2 + 1 ≡ suc (suc (k * 2 + 1)) = omega arith in
        let ws : List ℕ = y.0 ∷ y.1 ∷ row_words p x in
        ap (λ (l : List ℕ). piece_at l (row + suc k)) front_words
        ∙ place_over p ws row (suc k) (omega (arith, room.rows_in)) (omega (arith, run_words))
        ∙ ap₂ (λ (u v : ℕ). (get_or ws u 0, get_or ws v 0)) e f
        ∙ words_place p x k h

    pub lengthen_front : Lengthened true y x row p p' row
    lengthen_front =
        record {
          under = ap (take (row * 2)) front_words ∙ take_over p (row * 2) (new ++ row_words p x) (omega (arith, room.rows_in));
          length_is = ap length front_words ∙ length_over p (row * 2) (new ++ row_words p x) (omega (arith, room.rows_in, run_words));
          places =
              tabulate_cons (λ k. piece_at p' (row + k)) x.1
              ∙ ap₂ (λ (z : Place) (l : List Place). z ∷ l) front_new
              (tabulate_ext (λ k. piece_at p' (row + suc k)) (λ k. piece_at p (x.0 + k)) x.1 front_old);
          to = omega arith;
          from = omega arith;
          here = λ g. absurd (omega arith);
        }

  -- ── rows copied, and a new one behind ──
  module _ (p1 p' : List ℕ) (c : p1 ≡ over p (row * 2) (row_words p x)) (m : length p1 ≡ length p) (u : p' ≡ with_piece p1 (row + x.1) y.0 y.1) where
    behind_words : p' ≡ over p (row * 2) (row_words p x ++ new)
    behind_words =
        let a : (row + x.1) * 2 ≡ row * 2 + length (row_words p x) = omega (arith, run_words) in
        u ∙ two_sets p1 ((row + x.1) * 2) y.0 y.1 (omega (arith, room.rows_in)) ∙ ap₂ (λ (n : ℕ) (l : List ℕ). over l n new) a c
        ∙ over_over p (row * 2) (row_words p x) new (omega (arith, room.rows_in, run_words))

    behind_length : length (row_words p x ++ new) ≡ x.1 * 2 + 2
    behind_length = length-append (row_words p x) new ∙ omega (arith, run_words)

    behind_old : (k : ℕ) → k < x.1 → piece_at p' (row + k) ≡ piece_at p (x.0 + k)
    behind_old k h =
        ap (λ (l : List ℕ). piece_at l (row + k)) behind_words
        ∙ place_over p (row_words p x ++ new) row k (omega (arith, room.rows_in)) (omega (arith, behind_length))
        ∙ ap₂ (λ (u v : ℕ). (u, v)) (get_or-append (row_words p x) new 0 (k * 2) (omega (arith, run_words)))
        (get_or-append (row_words p x) new 0 (k * 2 + 1) (omega (arith, run_words)))
        ∙ words_place p x k h

    behind_new : piece_at p' (row + x.1) ≡ y
    behind_new =
        let ws : List ℕ = row_words p x ++ new in
        let e : x.1 * 2 ≡ length (row_words p x) + 0 = omega (arith, run_words) in
        let f : x.1 * 2 + 1 ≡ length (row_words p x) + 1 = omega (arith, run_words) in
        ap (λ (l : List ℕ). piece_at l (row + x.1)) behind_words
        ∙ place_over p ws row x.1 (omega (arith, room.rows_in)) (omega (arith, behind_length))
        ∙ ap₂ (λ (u v : ℕ). (get_or ws u 0, get_or ws v 0)) e f
        ∙ ap₂ (λ (u v : ℕ). (u, v)) (get_or-append-add (row_words p x) new 0 0) (get_or-append-add (row_words p x) new 1 0)

    pub lengthen_behind : Lengthened false y x row p p' row
    lengthen_behind =
        record {
          under = ap (take (row * 2)) behind_words ∙ take_over p (row * 2) (row_words p x ++ new) (omega (arith, room.rows_in));
          length_is = ap length behind_words ∙ length_over p (row * 2) (row_words p x ++ new) (omega (arith, room.rows_in, behind_length));
          places =
              ap₂ (λ (l : List Place) (z : Place). l ++ (z ∷ []))
              (tabulate_ext (λ k. piece_at p' (row + k)) (λ k. piece_at p (x.0 + k)) x.1 behind_old) behind_new;
          to = omega arith;
          from = omega arith;
          here = λ g. absurd (omega arith);
        }

  -- ── the run ends at the row: a new one behind it ──
  pub lengthen_here : (p' : List ℕ) → x.0 + x.1 ≡ row → p' ≡ with_piece p row y.0 y.1 → Lengthened false y x row p p' x.0
  lengthen_here p' e u =
      let w : p' ≡ over p (row * 2) new = u ∙ two_sets p (row * 2) y.0 y.1 (omega (arith, room.rows_in)) in
      let k : take (row * 2) p' ≡ take (row * 2) p = ap (take (row * 2)) w ∙ take_over p (row * 2) new (omega (arith, room.rows_in)) in
      let f : x.0 + x.1 ≡ row + 0 = omega arith in
      record {
        under = k;
        length_is = ap length w ∙ length_over p (row * 2) new (omega (arith, room.rows_in));
        places =
            ap₂ (λ (l : List Place) (z : Place). l ++ (z ∷ []))
            (tabulate_ext (λ k. piece_at p' (x.0 + k)) (λ k. piece_at p (x.0 + k)) x.1 (λ j h. row_kept p p' row (x.0 + j) k (omega arith)))
            (ap (piece_at p') f ∙ ap (λ (l : List ℕ). piece_at l (row + 0)) w ∙ place_over p new row 0 (omega (arith, room.rows_in)) (omega arith));
        to = omega arith;
        from = omega arith;
        here = λ _. (refl, e);
      }
