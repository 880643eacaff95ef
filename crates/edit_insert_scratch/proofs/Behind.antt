-- A run lengthened behind the lent tables: what stands at the front of the scratch tables is read as in the lent ones.
use mathlib.Core.Path.{◌≡◌, ap, ap₂, ◌∙◌, subst}
use mathlib.Core.Bool.{Bool}
use mathlib.Core.List.{List, ◌++◌, append_assoc}
use Prim.Native.Nat.{ℕ, ◌+◌, ◌*◌, ◌-◌, ◌≤◌}
use native.Mathlib.Omega.{arith}
use lib.ListN.{length, take}
use lib.Seq.{take-append-add}
use Rattle.memory_table.specs.Order.{entry_at}
use Rattle.memory.specs.Layout.{Place}
use Rattle.memory.specs.WellFormed.{RunIn}
use Rattle.model.specs.Insert.{push}
use Rattle.memory_texts.proofs.Texts.{run_length, run_piece}
use Rattle.edit_scratch.proofs.Front.{run_in_front, run_front}
use Rattle.edit_split_at.specs.Lift.{RunSmall}
use Rattle.memory_table.specs.Sides.{side}
use Rattle.edit_insert_row.specs.Added.{TextRoom, TextAdded}
use Rattle.edit_insert_side.specs.Piece.{Spare, Longer, PieceAdded}
use Rattle.edit_insert_in_place.proofs.Added.{added_on_top}
use Rattle.memory_layout.specs.Layout.{PIECE_ROWS, PIECES_LEN, STORE_LEN}

-- the front of a longer list
front_of : (n : ℕ) (p b q : List ℕ) → q ≡ p ++ b → length p ≤ n → take n q ≡ p ++ take (n - length p) b
front_of n p b q e h = let k : n ≡ length p + (n - length p) = omega arith in ap₂ take k e ∙ take-append-add p b (n - length p)

-- longer by a run of the front is longer by a run of the tables that it begins with
longer_front : (p y s z : List ℕ) {front : Bool} {text : List ℕ} {x : Place} {p' s' : List ℕ} {v : Place} → RunIn p s x → Longer (p ++ y) (s ++ z) front text x p' s' v
    → Longer p s front text x p' s' v
longer_front p y s z {front} {text} {x} h l =
    record {
      behind = y ++ l.behind;
      after = z ++ l.after;
      pieces = l.pieces ∙ append_assoc p y l.behind;
      store = l.store ∙ append_assoc s z l.after;
      texts = l.texts ∙ ap (push front text) (run_front p s y z x h);
      run_in = l.run_in;
    }

module _ {p s p1 s1 : List ℕ} (h : Spare p s p1 s1) (x : Place) (k : RunIn p s x) where
  abbrev y : List ℕ
  y = take (PIECES_LEN - length p) h.behind

  abbrev z : List ℕ
  z = take (STORE_LEN - length s) h.after

  rows_front : take (PIECE_ROWS * 2) p1 ≡ p ++ y
  rows_front = front_of PIECES_LEN p h.behind p1 h.pieces h.lent_pieces

  bytes_front : take STORE_LEN s1 ≡ s ++ z
  bytes_front = front_of STORE_LEN s h.after s1 h.store h.lent_store

  -- the run lies in the front
  pub front_in : RunIn (take (PIECE_ROWS * 2) p1) (take STORE_LEN s1) x
  front_in = rw (rows_front, bytes_front) (run_in_front p s y z x k)

  -- with room behind it
  pub behind_room : (text : List ℕ) → RunSmall p s x → length text ≤ STORE_LEN → TextRoom x text p1 s1 PIECE_ROWS STORE_LEN
  behind_room text f l =
      record {
        rows =
            record {
              under = λ g. let q = (run_piece p s x.0 x.1 (x.1 - 1) k (omega arith)).row in omega (arith, h.lent_pieces);
              rows_in = omega (arith, h.rows_room, f.pieces, run_length p s x.0 x.1);
            };
        bytes_in = omega (arith, h.bytes_room);
        narrow = h.narrow;
      }

-- the text put behind the lent store, and named by the row
pub piece_added : {outro front : Bool} {text p s p1 s1 p' s' t t' : List ℕ} {i above : ℕ} → RunIn p s (side outro (entry_at t i)) → RunSmall p s (side outro (entry_at t i)) → Spare p s p1 s1
    → length text ≤ STORE_LEN → TextAdded outro front text PIECE_ROWS STORE_LEN t p1 s1 t' p' s' i above → PieceAdded outro front text p s t t' p' s' i
piece_added {outro} {front} {text} {p} {s} {p1} {s1} {p'} {s'} {t} {t'} {i} k f h l d =
    let v = side outro (entry_at t i) in
    let a = (added_on_top (behind_room h v k text f l) (front_in h v k) d).added in
    record {
      run = a.run;
      longer =
          longer_front p (y h v k) s (z h v k) k
          (subst (λ (b : List ℕ). Longer b (s ++ z h v k) front text v p' s' a.run) (rows_front h v k)
          (subst (λ (b : List ℕ). Longer (take (PIECE_ROWS * 2) p1) b front text v p' s' a.run) (bytes_front h v k) a.longer));
      put = a.put;
    }
