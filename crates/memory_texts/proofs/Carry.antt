-- Laws of what `Carry` in specs/ defines.
use mathlib.Core.Path.{◌≡◌, refl, ap, sym, ◌∙◌}
use mathlib.Core.List.{List, [], ◌∷◌, ◌++◌, append_assoc}
use Prim.Native.Nat.{ℕ, suc, ◌+◌, ◌*◌, ◌≤◌, ◌<◌}
use native.Mathlib.Omega.{arith}
use native.Mathlib.Nat.{add_assoc, add-zero}
use lib.ListN.{length, get_or, take, drop, length-append, length-take}
use lib.Seq.{get_or-take, get_or-drop, split_at}
use Rattle.utf8.specs.Chars.{concat}
use Rattle.utf8.proofs.CharLaws.{concat_append}
use Rattle.model.specs.Text.{Text}
use Rattle.memory.specs.Layout.{Place, bytes_at, piece_at, run_of}
use Rattle.memory_texts.proofs.Over.{over_nil, over_over, length_over, take_over, over_part, part_kept}
use Rattle.memory_texts.proofs.Texts.{concat_cons, concat_nil, concat_one, tabulate_ext, tabulate_list, run_tabulate}
use Rattle.memory_texts.specs.Carry.{rows_for, Pushed, RoomFor, Carried, RoomOf}

rows_append : (byte : ℕ) (ts us : List Text) → rows_for byte (ts ++ us) ≡ rows_for byte ts ++ rows_for (byte + length (concat ts)) us
rows_append byte [] us = rw (concat_nil, add-zero)
rows_append byte (t ∷ ts) us = rw (rows_append (byte + length t) ts us, concat_cons t ts, length-append, add_assoc)

pub rows_length : (byte : ℕ) (ts : List Text) → length (rows_for byte ts) ≡ length ts * 2
rows_length byte [] = refl
rows_length byte (t ∷ ts) = omega (arith, rows_length (byte + length t) ts)

concat_length : (ts us : List Text) → length (concat (ts ++ us)) ≡ length (concat ts) + length (concat us)
concat_length ts us = ap length (concat_append ts us) ∙ length-append (concat ts) (concat us)

pub carried_none : (p s : List ℕ) (byte row : ℕ) → Carried [] p s byte row p s byte row
carried_none p s byte row = record { store_is = rw concat_nil (over_nil s byte); pieces_is = over_nil p (row * 2); byte_is = rw concat_nil (omega arith); row_is = omega arith }

pub carried_one : {t p s : List ℕ} {byte row : ℕ} {p' s' : List ℕ} {byte' : ℕ} → Pushed t p s byte row p' s' byte' → Carried (t ∷ []) p s byte row p' s' byte' (row + 1)
carried_one {t} w = record { store_is = rw (concat_one t) w.store_is; pieces_is = w.pieces_is; byte_is = rw (concat_one t) w.byte_is; row_is = refl }

pub room_one : {t p s : List ℕ} {byte row : ℕ} → RoomOf (t ∷ []) p s byte row → RoomFor t p s byte row
room_one {t} r = record { row_in = omega (arith, r.rows_in); bytes_in = rw (concat_one t) at r.bytes_in; narrow = r.narrow }

pub room_front : (ts us : List Text) {p s : List ℕ} {byte row : ℕ} → RoomOf (ts ++ us) p s byte row → RoomOf ts p s byte row
room_front ts us r =
    let e = concat_length ts us in
    let l : length (ts ++ us) ≡ length ts + length us = length-append ts us in
    record { rows_in = omega (arith, r.rows_in); bytes_in = omega (arith, r.bytes_in); rows_narrow = r.rows_narrow; narrow = r.narrow }

module _ {ts : List Text} {p s : List ℕ} {byte row : ℕ} {p' s' : List ℕ} {byte' row' : ℕ} (c : Carried ts p s byte row p' s' byte' row') where
  -- the tables keep their lengths
  pub carried_rows : (row + length ts) * 2 ≤ length p → length p' ≡ length p
  carried_rows h = ap length c.pieces_is ∙ length_over p (row * 2) (rows_for byte ts) (rw rows_length (omega arith))

  pub carried_bytes : byte + length (concat ts) ≤ length s → length s' ≡ length s
  carried_bytes h = ap length c.store_is ∙ length_over s byte (concat ts) h

  -- room for what is put next
  pub carried_room : (us : List Text) → RoomOf (ts ++ us) p s byte row → RoomOf us p' s' byte' row'
  carried_room us r =
      let e = concat_length ts us in
      let l : length (ts ++ us) ≡ length ts + length us = length-append ts us in
      let hr : length p' ≡ length p = carried_rows (omega (arith, r.rows_in)) in
      let hb : length s' ≡ length s = carried_bytes (omega (arith, r.bytes_in)) in
      record {
        rows_in = omega (arith, r.rows_in, c.row_is);
        bytes_in = omega (arith, r.bytes_in, c.byte_is);
        rows_narrow = omega (arith, r.rows_narrow);
        narrow = omega (arith, r.narrow);
      }

  -- what is put next
  pub carried_more : (us : List Text) {p'' s'' : List ℕ} {byte'' row'' : ℕ} → RoomOf (ts ++ us) p s byte row → Carried us p' s' byte' row' p'' s'' byte'' row'' →
      Carried (ts ++ us) p s byte row p'' s'' byte'' row''
  carried_more us r d =
      let k = concat_length ts us in
      let l : length (ts ++ us) ≡ length ts + length us = length-append ts us in
      let e : row' * 2 ≡ row * 2 + length (rows_for byte ts) = omega (arith, c.row_is, rows_length byte ts) in
      record {
        store_is = rw (concat_append ts us, d.store_is, c.store_is, c.byte_is) (over_over s byte (concat ts) (concat us) (omega (arith, r.bytes_in)));
        pieces_is = rw (rows_append byte ts us, d.pieces_is, c.pieces_is, e, c.byte_is)
            (over_over p (row * 2) (rows_for byte ts) (rows_for (byte + length (concat ts)) us) (omega (arith, r.rows_in, rows_length byte ts, rows_length (byte + length (concat ts)) us)));
        byte_is = rw (concat_append ts us, length-append) (omega (arith, c.byte_is, d.byte_is));
        row_is = rw length-append (omega (arith, c.row_is, d.row_is));
      }

-- a text among those that were put: its row, and its bytes
module _ (ts : List Text) (t : Text) (us : List Text) {p s : List ℕ} {byte row : ℕ} {p' s' : List ℕ} {byte' row' : ℕ}
    (c : Carried (ts ++ (t ∷ us)) p s byte row p' s' byte' row') (hr : row * 2 ≤ length p) (hb : byte ≤ length s) where
  pub carried_piece : piece_at p' (row + length ts) ≡ (byte + length (concat ts), length t)
  carried_piece =
      let i : ℕ = (row + length ts) * 2 in
      let e : i ≡ row * 2 + length (rows_for byte ts) = omega (arith, rows_length byte ts) in
      let at : ℕ = byte + length (concat ts) in
      let w : take 2 (drop i p') ≡ at ∷ length t ∷ [] =
      rw (e, c.pieces_is, rows_append byte ts (t ∷ us)) (over_part p (row * 2) (rows_for byte ts) (at ∷ length t ∷ []) (rows_for (at + length t) us) hr) in
      let word : (j : ℕ) → j < 2 → get_or p' (i + j) 0 ≡ get_or (at ∷ length t ∷ []) j 0 =
      λ j h. sym (get_or-take 2 (drop i p') j 0 h ∙ get_or-drop i p' j 0) ∙ ap (λ l. get_or l j 0) w in
      let e0 : get_or p' i 0 ≡ at = rw add-zero at (word 0 (omega arith)) in
      rw (e0, word 1 (omega arith))

  pub carried_text : bytes_at s' (piece_at p' (row + length ts)) ≡ t
  carried_text =
      ap (bytes_at s') carried_piece ∙ rw (c.store_is, concat_append ts (t ∷ us), concat_cons t us) (over_part s byte (concat ts) t (concat us) hb)

-- a list of texts among those that were put, as a run
module _ (ts us vs : List Text) {p s : List ℕ} {byte row : ℕ} {p' s' : List ℕ} {byte' row' : ℕ}
    (c : Carried (ts ++ (us ++ vs)) p s byte row p' s' byte' row') (room : RoomOf (ts ++ (us ++ vs)) p s byte row) where
  part_of : (k : ℕ) → k < length us → ts ++ (us ++ vs) ≡ (ts ++ take k us) ++ (get_or us k [] ∷ (drop (suc k) us ++ vs))
  part_of k h = ap (λ l. ts ++ (l ++ vs)) (split_at us k [] h) ∙ simp append_assoc

  place_of : (k : ℕ) → k < length us → row + length (ts ++ take k us) ≡ row + length ts + k
  place_of k h = simp (length-append, length-take) (omega arith)

  pub carried_run : run_of p' s' (row + length ts, length us) ≡ us
  carried_run =
      let here : (k : ℕ) → k < length us → bytes_at s' (piece_at p' (row + length ts + k)) ≡ get_or us k [] = λ k h.
      rw (place_of k h) at (carried_text (ts ++ take k us) (get_or us k []) (drop (suc k) us ++ vs) (rw (part_of k h) at c) (omega (arith, room.rows_in)) (omega (arith, room.bytes_in))) in
      run_tabulate p' s' (row + length ts) (length us) ∙ tabulate_ext (λ k. bytes_at s' (piece_at p' (row + length ts + k))) (λ k. get_or us k []) (length us) here ∙ tabulate_list [] us

  -- it lies in the tables, below the places behind all the copies
  pub carried_below : (k : ℕ) → k < length us → (row + length ts + k < row') × ((piece_at p' (row + length ts + k)).0 + (piece_at p' (row + length ts + k)).1 ≤ byte')
  carried_below k h =
      let q = part_of k h in
      let e = rw (place_of k h) at (carried_piece (ts ++ take k us) (get_or us k []) (drop (suc k) us ++ vs) (rw q at c) (omega (arith, room.rows_in)) (omega (arith, room.bytes_in))) in
      let l = concat_length (ts ++ take k us) (get_or us k [] ∷ (drop (suc k) us ++ vs)) in
      let m : length (concat (get_or us k [] ∷ (drop (suc k) us ++ vs))) ≡ length (get_or us k []) + length (concat (drop (suc k) us ++ vs)) =
      ap length (concat_cons (get_or us k []) (drop (suc k) us ++ vs)) ∙ length-append (get_or us k []) _ in
      let b : byte' ≡ byte + length (concat ((ts ++ take k us) ++ (get_or us k [] ∷ (drop (suc k) us ++ vs)))) = rw (← q) c.byte_is in
      let a : length (ts ++ (us ++ vs)) ≡ length ts + (length us + length vs) = length-append ts (us ++ vs) ∙ ap (λ (x : ℕ). length ts + x) (length-append us vs) in
      (omega (arith, c.row_is), omega (arith, ap (λ (r : Place). r.0 + r.1) e))

-- a run below a row and a byte reads as before
module _ {ts : List Text} {p s : List ℕ} {byte row : ℕ} {p' s' : List ℕ} {byte' row' : ℕ} (c : Carried ts p s byte row p' s' byte' row') (room : RoomOf ts p s byte row) where
  kept_word : (i : ℕ) → i < row * 2 → get_or p' i 0 ≡ get_or p i 0
  kept_word i h =
      let e : take (row * 2) p' ≡ take (row * 2) p = rw c.pieces_is (take_over p (row * 2) _ (omega (arith, room.rows_in))) in
      sym (get_or-take (row * 2) p' i 0 h) ∙ ap (λ l. get_or l i 0) e ∙ get_or-take (row * 2) p i 0 h

  pub kept_piece : (j : ℕ) → j < row → piece_at p' j ≡ piece_at p j
  kept_piece j h = rw (kept_word (j * 2) (omega arith), kept_word (j * 2 + 1) (omega arith))

  -- a text that ends at or before the byte
  pub kept_bytes : (r : Place) → r.0 + r.1 ≤ byte → bytes_at s' r ≡ bytes_at s r
  kept_bytes r h = part_kept r.1 r.0 byte s s' (rw c.store_is (take_over s byte _ (omega (arith, room.bytes_in)))) h
