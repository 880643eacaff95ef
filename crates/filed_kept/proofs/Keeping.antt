-- The three tables of a desk, put into a record and put back.
use Prim.Native.Nat.{ℕ, ◌+◌, ◌≤◌}
use mathlib.Core.Path.{◌≡◌, refl, sym, ap, ◌∙◌}
use mathlib.Core.List.{List, [], ◌∷◌, ◌++◌, append-nil}
use native.Mathlib.Omega.{arith}
use lib.ListN.{length, get_or, take, drop, length-drop}
use lib.Seq.{length-take-le}
use Rattle.memory_layout.specs.Layout.{CHUNKS_LEN, PIECES_LEN, STORE_LEN, KEPT_CHUNKS, KEPT_PIECES, KEPT_STORE, RECORD_WORDS_LEN, RECORD_BYTES_LEN, RECORD_USED}
use Rattle.memory.specs.WellFormed.{Full}
use Rattle.memory_texts.specs.Over.{over}
use Rattle.memory_texts.proofs.Over.{length_over, over_all, take_over, getD_before, part_kept}
use Rattle.filed_record.specs.Record.{kept_chunks, kept_pieces, kept_store}
use Rattle.filed_kept.specs.Kept.{Keeps}

-- what stands at the front of a place, written there
at_place : (d xs : List ℕ) (a n : ℕ) → length xs ≡ n → a ≤ length d → take n (drop a (over d a xs)) ≡ xs
at_place d xs a n e h = ap (λ k. take k (drop a (over d a xs))) (sym e) ∙ over_all d a xs h

module _ {t p s w b : List ℕ} (f : Full t p s) (hw : length w ≡ RECORD_WORDS_LEN) (hb : length b ≡ RECORD_BYTES_LEN) where
  -- by the slices as the copies leave them
  pub keeps : {w₁ w₂ b' : List ℕ} → w₁ ≡ over w KEPT_CHUNKS t → w₂ ≡ over w₁ KEPT_PIECES p → b' ≡ over b KEPT_STORE s → Keeps t p s w b w₂ b'
  keeps {w₁} {w₂} {b'} e₁ e₂ e₃ =
      let ft = f.chunks in
      let fp = f.pieces in
      let fs = f.store in
      let long : length w₁ ≡ length w = ap length e₁ ∙ length_over w KEPT_CHUNKS t (omega arith) in
      let low : KEPT_PIECES ≤ length w₁ = omega arith in
      record {
        chunks =
            ap kept_chunks e₂
            ∙ part_kept CHUNKS_LEN KEPT_CHUNKS KEPT_PIECES w₁ (over w₁ KEPT_PIECES p) (take_over w₁ KEPT_PIECES p low) (omega arith)
            ∙ ap kept_chunks e₁ ∙ at_place w t KEPT_CHUNKS CHUNKS_LEN ft (omega arith);
        pieces = ap kept_pieces e₂ ∙ at_place w₁ p KEPT_PIECES PIECES_LEN fp low;
        store = ap kept_store e₃ ∙ at_place b s KEPT_STORE STORE_LEN fs (omega arith);
        used =
            ap (λ l. get_or l RECORD_USED 0) e₂ ∙ getD_before w₁ KEPT_PIECES p low RECORD_USED (omega arith)
            ∙ ap (λ l. get_or l RECORD_USED 0) e₁ ∙ getD_before w KEPT_CHUNKS t (omega arith) RECORD_USED (omega arith);
        bytes = ap (take KEPT_STORE) e₃ ∙ take_over b KEPT_STORE s (omega arith);
      }

-- and as long as they were
pub words_long : (t p s w : List ℕ) {w₁ w₂ : List ℕ} → Full t p s → length w ≡ RECORD_WORDS_LEN → w₁ ≡ over w KEPT_CHUNKS t → w₂ ≡ over w₁ KEPT_PIECES p → length w₂ ≡ length w
words_long t p s w {w₁} f hw e₁ e₂ =
    let ft = f.chunks in
    let fp = f.pieces in
    let long : length w₁ ≡ length w = ap length e₁ ∙ length_over w KEPT_CHUNKS t (omega arith) in
    ap length e₂ ∙ length_over w₁ KEPT_PIECES p (omega arith) ∙ long

-- a list put over another that is as long
pub put_all : (d xs : List ℕ) {d' : List ℕ} → length xs ≡ length d → d' ≡ xs ++ drop (length xs) d → d' ≡ xs
put_all d xs h e = e ∙ ap (λ l. xs ++ l) (none_left d (length xs) (omega arith)) ∙ append-nil xs
  where
    none_left : (l : List ℕ) (n : ℕ) → length l ≤ n → drop n l ≡ []
    none_left l n g = nothing (drop n l) (omega (arith, length-drop n l))
      where
        nothing : (x : List ℕ) → length x ≡ 0 → x ≡ []
        nothing [] q = refl
        nothing (y ∷ x) q = absurd (omega arith)

-- a part of a slice that is put over a table as long as it
pub part_all : (d l : List ℕ) (a n : ℕ) {d' : List ℕ} → a + n ≤ length l → length d ≡ n → d' ≡ take n (drop a l) ++ drop (length (take n (drop a l))) d → d' ≡ take n (drop a l)
part_all d l a n h k e = put_all d (take n (drop a l)) (length-take-le n (drop a l) (omega (arith, length-drop a l)) ∙ sym k) e
