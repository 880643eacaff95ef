-- The rows of a run by their words, and what a copy of them names.
use mathlib.Core.Path.{◌≡◌, refl, sym, ap, ap₂, ◌∙◌, subst}
use mathlib.Core.List.{List, ◌++◌}
use Prim.Native.Nat.{ℕ, ◌+◌, ◌*◌, ◌≤◌, ◌<◌}
use native.Mathlib.Omega.{arith}
use native.Mathlib.Decide.{dec_lt}
use lib.ListN.{length, get_or, take, drop, length-drop, get_or-append}
use lib.Seq.{length-take-le, get_or-take, get_or-drop, get_or-append-add}
use Rattle.memory_table.specs.declared.Piece.{Piece}
use Rattle.memory.specs.Layout.{Place, piece_at}
use Rattle.memory_texts.specs.Over.{over}
use Rattle.memory_texts.specs.Low.{RowsKept}
use Rattle.memory_texts.proofs.Over.{length_over, take_over, part_kept}
use Rattle.memory_copy.specs.Rows.{row_words}

-- ---- words and places

-- a word that was written
over_at : (d : List ℕ) (a : ℕ) (xs : List ℕ) (i : ℕ) → a ≤ length d → i < length xs → get_or (over d a xs) (a + i) 0 ≡ get_or xs i 0
unfolding over
over_at d a xs i h k =
    let l : length (take a d) ≡ a = length-take-le a d h in
    subst (λ (n : ℕ). get_or (take a d ++ (xs ++ drop (a + length xs) d)) (n + i) 0 ≡ get_or xs i 0) l
    (get_or-append-add (take a d) (xs ++ drop (a + length xs) d) i 0 ∙ get_or-append xs (drop (a + length xs) d) 0 i k)

-- a place of a table that was written over from a row on
pub place_over : (p xs : List ℕ) (row j : ℕ) → row * 2 ≤ length p → j * 2 + 1 < length xs
    → piece_at (over p (row * 2) xs) (row + j) ≡ (get_or xs (j * 2) 0, get_or xs (j * 2 + 1) 0)
place_over p xs row j h k =
    let e : (row + j) * 2 ≡ row * 2 + j * 2 = omega arith in
    let f : (row + j) * 2 + 1 ≡ row * 2 + (j * 2 + 1) = omega arith in
    ap₂ (λ (u v : ℕ). (u, v))
    (ap (λ (n : ℕ). get_or (over p (row * 2) xs) n 0) e ∙ over_at p (row * 2) xs (j * 2) h (omega arith))
    (ap (λ (n : ℕ). get_or (over p (row * 2) xs) n 0) f ∙ over_at p (row * 2) xs (j * 2 + 1) h k)

pub words_length : (p : List ℕ) (x : Place) → (0 < x.1 → (x.0 + x.1) * 2 ≤ length p) → length (row_words p x) ≡ x.1 * 2
words_length p x h =
    elim (dec_lt 0 x.1) [
      | yes k ↦ length-take-le (x.1 * 2) (drop (x.0 * 2) p) (simp length-drop (omega (arith, h k)))
      | no k ↦
          let e : x.1 ≡ 0 = omega arith in
          subst (λ (n : ℕ). length {A = ℕ} (take (n * 2) (drop (x.0 * 2) p)) ≡ n * 2) (sym e) refl
    ]

pub words_kept : (x : Place) (row : ℕ) (p p' : List ℕ) → (0 < x.1 → x.0 + x.1 ≤ row) → take (row * 2) p' ≡ take (row * 2) p → row_words p' x ≡ row_words p x
words_kept x row p p' u e =
    elim (dec_lt 0 x.1) [
      | yes k ↦ part_kept (x.1 * 2) (x.0 * 2) (row * 2) p p' e (omega (arith, u k))
      | no k ↦
          let z : x.1 ≡ 0 = omega arith in
          subst (λ (n : ℕ). take {A = ℕ} (n * 2) (drop (x.0 * 2) p') ≡ take (n * 2) (drop (x.0 * 2) p)) (sym z) refl
    ]

word_at : (p : List ℕ) (x : Place) (i : ℕ) → i < x.1 * 2 → get_or (row_words p x) i 0 ≡ get_or p (x.0 * 2 + i) 0
word_at p x i h = get_or-take (x.1 * 2) (drop (x.0 * 2) p) i 0 h ∙ get_or-drop (x.0 * 2) p i 0

-- place k of a run, by its words
pub words_place : (p : List ℕ) (x : Place) (k : ℕ) → k < x.1
    → ◌≡◌ {A = Place} (get_or (row_words p x) (k * 2) 0, get_or (row_words p x) (k * 2 + 1) 0) (piece_at p (x.0 + k))
words_place p x k h =
    let e : x.0 * 2 + k * 2 ≡ (x.0 + k) * 2 = omega arith in
    let f : x.0 * 2 + (k * 2 + 1) ≡ (x.0 + k) * 2 + 1 = omega arith in
    ap₂ (λ (u v : ℕ). (u, v))
    (word_at p x (k * 2) (omega arith) ∙ ap (λ (n : ℕ). get_or p n 0) e)
    (word_at p x (k * 2 + 1) (omega arith) ∙ ap (λ (n : ℕ). get_or p n 0) f)

-- a row that is not written names what it named
pub row_kept : (p p' : List ℕ) (row j : ℕ) → take (row * 2) p' ≡ take (row * 2) p → j < row → piece_at p' j ≡ piece_at p j
row_kept p p' row j e h = ap₂ (λ (u v : ℕ). (u, v)) (word (j * 2) (omega arith)) (word (j * 2 + 1) (omega arith))
  where
    word : (i : ℕ) → i < row * 2 → get_or p' i 0 ≡ get_or p i 0
    word i g = sym (get_or-take (row * 2) p' i 0 g) ∙ ap (λ (l : List ℕ). get_or l i 0) e ∙ get_or-take (row * 2) p i 0 g

-- ---- a copy, row by row

-- the rows below `to` are as they were, and those from there on are the rows at .. at + n - 1
pub record Copied (p p' : List ℕ) (at n to : ℕ) : Type 0 where
  pub kept : RowsKept to p p'
  pub copies : (j : ℕ) → j < n → piece_at p' (to + j) ≡ piece_at p (at + j)

pub rows_copied : (p p' : List ℕ) (at n to : ℕ) → at + n ≤ to → (to + n) * 2 ≤ length p → p' ≡ over p (to * 2) (row_words p (at, n)) → Copied p p' at n to
rows_copied p p' at n to b r c =
    let l : length (row_words p (at, n)) ≡ n * 2 = words_length p (at, n) (λ _. omega arith) in
    let under : take (to * 2) p' ≡ take (to * 2) p = ap (take (to * 2)) c ∙ take_over p (to * 2) (row_words p (at, n)) (omega arith) in
    record {
      kept =
          record {
            len = ap length c ∙ length_over p (to * 2) (row_words p (at, n)) (omega arith);
            rows = λ j h. row_kept p p' to j under h;
          };
      copies = λ j h.
          ap (λ (x : List ℕ). piece_at x (to + j)) c
          ∙ place_over p (row_words p (at, n)) to j (omega arith) (omega arith)
          ∙ words_place p (at, n) j h;
    }

-- a row that was read or written, as a place
pub pair : {q r : Piece} → q ≡ r → ◌≡◌ {A = Place} (q.at, q.n) (r.at, r.n)
pair e = ap (λ (x : Piece). (x.at, x.n)) e
