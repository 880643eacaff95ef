-- Laws of what `Run` in specs/ defines.
use mathlib.Core.Path.{◌≡◌, refl, sym, ap, ap₂, ◌∙◌, subst}
use mathlib.Core.Bool.{Bool, true}
use mathlib.Core.List.{List, [], ◌∷◌, ◌++◌}
use Prim.Native.Nat.{ℕ, ◌+◌, ◌*◌, ◌-◌, ◌^◌, ◌≤◌, ◌<◌}
use native.Mathlib.Omega.{arith}
use native.Mathlib.Numerals.{add-one}
use native.Mathlib.Nat.{add-zero}
use native.Mathlib.Decide.{le_ind}
use lib.ListN.{length, length-append}
use Rattle.utf8.specs.Rfc3629.{utf8}
use Rattle.utf8.specs.Chars.{concat}
use Rattle.memory_table.specs.Pieces.{with_piece}
use Rattle.model.specs.Text.{Text}
use Rattle.model.specs.Indent.{indent_frag, Pieces, then_piece, indent_pieces}
use Rattle.memory.specs.Layout.{tabulate, run_of}
use Rattle.memory_texts.specs.Over.{over}
use Rattle.memory_texts.proofs.Over.{two_sets}
use Rattle.memory_texts.proofs.Texts.{concat_nil, concat_snoc, run_tabulate}
use Rattle.memory.proofs.Desks.{length_tabulate}
use Rattle.memory_texts.specs.Carry.{Carried, RoomOf}
use Rattle.memory_texts.proofs.Carry.{carried_none, carried_one, carried_more}
use Rattle.indent_mark.specs.Bytes.{Filled, mark_behind}
use Rattle.indent_mark.proofs.ByCharacters.{indent_frag_is}
use Rattle.model_preservation.proofs.Indent.{pieces_length}
use Rattle.indent_head_tail.specs.Run.{PieceRoom, PieceIndented, RunReady, first_ones, texts, Running}

-- ---- one text

pub piece_done : {xs s s' : List ℕ} {byte end : ℕ} → Filled s byte xs s' end → (p p' : List ℕ) (row : ℕ) → row * 2 + 2 ≤ length p → p' ≡ with_piece p row byte (end - byte)
    → PieceIndented xs p s byte row p' s' end
piece_done {xs} {byte = byte} {end} x p p' row h put =
    let n : end - byte ≡ length xs = omega (arith, x.done.next_is) in
    record {
      done = record {
        store_is = x.done.out_is;
        pieces_is = put ∙ two_sets p (row * 2) byte (end - byte) (omega arith) ∙ ap (λ (k : ℕ). over p (row * 2) (byte ∷ k ∷ [])) n;
        byte_is = x.done.next_is;
      };
      room = x.room;
    }

-- ---- a run

-- the texts are put from a byte and a row on, and the mark behind them is the model's
pub record RunIndented (indentor : Text) (mark : Bool) (ts : List Text) (p s : List ℕ) (byte top : ℕ) (p' s' : List ℕ) (mark' : Bool) (byte' : ℕ) : Type 0 where
  pub done : Carried (indent_pieces indentor mark ts).pieces p s byte top p' s' byte' (top + length ts)
  pub room : RoomOf (indent_pieces indentor mark ts).pieces p s byte top
  pub mark_is : mark' ≡ (indent_pieces indentor mark ts).mark

-- one text more
indent_snoc : (indentor : Text) (mark : Bool) (l : List Text) (t : Text)
    → indent_pieces indentor mark (l ++ (t ∷ []))
    ≡ record {
      mark = (indent_frag indentor (indent_pieces indentor mark l).mark t).mark;
      pieces = (indent_pieces indentor mark l).pieces ++
          ((indent_frag indentor (indent_pieces indentor mark l).mark t).text ∷ []);
    }
indent_snoc indentor mark [] t = refl
indent_snoc indentor mark (x ∷ l) t = ap (then_piece (indent_frag indentor mark x).text) (indent_snoc indentor (indent_frag indentor mark x).mark l t)

module _ (indentor : Text) (mark : Bool) (f : ℕ → Text) (p s : List ℕ) (byte top : ℕ) where
  pub running_none : byte ≤ length s → Running indentor mark f p s byte top 0 p s byte mark
  running_none h =
      record {
        mark_is = refl;
        carried = rw add-zero (carried_none p s byte top);
        room = rw concat_nil (omega arith);
        same_rows = refl;
        same_bytes = refl;
      }

  ones_length : (i : ℕ) → length (first_ones indentor mark f i).pieces ≡ i
  ones_length i = pieces_length indentor mark (tabulate f i) ∙ length_tabulate f i

  ones_mono : (i n : ℕ) → i ≤ n → length (concat (first_ones indentor mark f i).pieces) ≤ length (concat (first_ones indentor mark f n).pieces)
  ones_mono i n h =
      le_ind (λ k. length (concat (first_ones indentor mark f i).pieces) ≤ length (concat (first_ones indentor mark f k).pieces)) (omega arith)
      (λ m (hm : i ≤ m) ih.
      let x = first_ones indentor mark f m in
      let y = (indent_frag indentor x.mark (f m)).text in
      omega (
        arith,
        ih,
        ap (λ (z : Pieces). length (concat z.pieces)) (indent_snoc indentor mark (tabulate f m) (f m)),
        ap length (concat_snoc x.pieces y),
        length-append (concat x.pieces) y,
      )) n h

  module _ {i next : ℕ} {p' s' : List ℕ} {m : Bool} (r : Running indentor mark f p s byte top i p' s' next m) (n : ℕ) (h : i < n) (rows : (top + n) * 2 ≤ length p) where
    pub running_room : length s < 2 ^ 32 → PieceRoom p' s' (top + i) next
    running_room narrow =
        record {
          row_in = omega (arith, r.same_rows);
          byte_in = omega (arith, r.carried.byte_is, r.room, r.same_bytes);
          narrow = omega (arith, r.same_bytes);
        }

    module _ (t : Text) (e : t ≡ f i) where
      -- the texts up to this one
      ones_pieces : (first_ones indentor mark f (i + 1)).pieces ≡ (first_ones indentor mark f i).pieces ++ ((indent_frag indentor m t).text ∷ [])
      ones_pieces =
          ap (λ (k : ℕ). (first_ones indentor mark f k).pieces) (add-one i)
          ∙ ap (λ (z : Pieces). z.pieces) (indent_snoc indentor mark (tabulate f i) (f i))
          ∙ ap₂ (λ (a : Bool) (b : Text). (first_ones indentor mark f i).pieces ++ ((indent_frag indentor a b).text ∷ [])) (sym r.mark_is) (sym e)

      ones_bytes : length (concat (first_ones indentor mark f (i + 1)).pieces) ≡ length (concat (first_ones indentor mark f i).pieces) + length (indent_frag indentor m t).text
      ones_bytes = ap (λ (z : List Text). length (concat z)) ones_pieces ∙ ap length (concat_snoc (first_ones indentor mark f i).pieces _)
          ∙ length-append (concat (first_ones indentor mark f i).pieces) _

      pub running_short : length s' < next + length (indent_frag indentor m t).text → length s < byte + length (concat (first_ones indentor mark f n).pieces)
      running_short k = omega (arith, k, r.carried.byte_is, r.same_bytes, ones_bytes, ones_mono (i + 1) n (omega arith))

      module _ {p'' s'' : List ℕ} {end : ℕ} (x : PieceIndented (indent_frag indentor m t).text p' s' next (top + i) p'' s'' end) where
        bytes_next : byte + length (concat (first_ones indentor mark f (i + 1)).pieces) ≤ length s
        bytes_next = omega (arith, x.room, r.carried.byte_is, r.same_bytes, ones_bytes)

        room_next : length p < 2 ^ 32 → length s < 2 ^ 32 → RoomOf (first_ones indentor mark f (i + 1)).pieces p s byte top
        room_next np ns = record { rows_in = omega (arith, ones_length (i + 1)); bytes_in = bytes_next; rows_narrow = np; narrow = ns }

        pub running_more : (v : utf8 t ≡ true) (m' : Bool) → m' ≡ mark_behind m t → length p < 2 ^ 32 → length s < 2 ^ 32 → length p'' ≡ length p' → length s'' ≡ length s'
            → Running indentor mark f p s byte top (i + 1) p'' s'' end m'
        running_more v m' em np ns lp ls =
            let us : List Text = (indent_frag indentor m t).text ∷ [] in
            let a : top + i + 1 ≡ top + (i + 1) = omega arith in
            let g = carried_more r.carried us (subst (λ (z : List Text). RoomOf z p s byte top) ones_pieces (room_next np ns)) (carried_one x.done) in
            record {
              mark_is =
                  em
                  ∙ sym (ap (λ (z : _). z.mark) (indent_frag_is indentor m t v))
                  ∙ ap₂ (λ (b : Bool) (y : Text). (indent_frag indentor b y).mark) r.mark_is e
                  ∙ sym (ap (λ (z : Pieces). z.mark) (indent_snoc indentor mark (tabulate f i) (f i)))
                  ∙ ap (λ (j : ℕ). (first_ones indentor mark f j).mark) (sym (add-one i));
              carried = subst (λ (z : List Text). Carried z p s byte top p'' s'' end (top + (i + 1))) (sym ones_pieces)
                  (subst (Carried ((first_ones indentor mark f i).pieces ++ us) p s byte top p'' s'' end) a g);
              room = bytes_next;
              same_rows = lp ∙ r.same_rows;
              same_bytes = ls ∙ r.same_bytes;
            }

-- ---- the ends

module _ (indentor : Text) (mark : Bool) (pieces store : List ℕ) (at n : ℕ) (p s : List ℕ) (byte top : ℕ) (w : RunReady pieces store at n p s top byte) where
  abbrev ones : ℕ → Pieces
  ones i = first_ones indentor mark (texts pieces store at) i

  run_ones : indent_pieces indentor mark (run_of pieces store (at, n)) ≡ ones n
  run_ones = ap (indent_pieces indentor mark) (run_tabulate pieces store at n)

  pub run_short : length s < byte + length (concat (ones n).pieces) → length s < byte + length (concat (indent_pieces indentor mark (run_of pieces store (at, n))).pieces)
  run_short h = omega (arith, h, ap (λ (z : Pieces). length (concat z.pieces)) run_ones)

  module _ {i next : ℕ} {p' s' : List ℕ} {m : Bool} (r : Running indentor mark (texts pieces store at) p s byte top i p' s' next m) (e : i ≡ n) where
    pub run_done : RunIndented indentor mark (run_of pieces store (at, n)) p s byte top p' s' m next
    run_done =
        let q : ones i ≡ indent_pieces indentor mark (run_of pieces store (at, n)) = ap ones e ∙ sym run_ones in
        let l : length (run_of pieces store (at, n)) ≡ i = ap length (run_tabulate pieces store at n) ∙ length_tabulate (texts pieces store at) n ∙ sym e in
        record {
          done =
              subst (λ (z : Pieces). Carried z.pieces p s byte top p' s' next (top + length (run_of pieces store (at, n)))) q
              (subst (λ (k : ℕ). Carried (ones i).pieces p s byte top p' s' next (top + k)) (sym l) r.carried);
          room =
              record {
                rows_in = omega (arith, w.rows, pieces_length indentor mark (run_of pieces store (at, n)), l);
                bytes_in = omega (arith, r.room, ap (λ (z : Pieces). length (concat z.pieces)) q);
                rows_narrow = w.rows_narrow;
                narrow = w.narrow;
              };
          mark_is = r.mark_is ∙ ap (λ (z : Pieces). z.mark) q;
        }
