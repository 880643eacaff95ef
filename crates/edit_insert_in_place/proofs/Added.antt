-- Laws of what `Added` in specs/ defines.
use mathlib.Core.Path.{◌≡◌, refl, sym, ap, ap₂, ◌∙◌, subst}
use mathlib.Core.Bool.{Bool, true, false}
use mathlib.Core.List.{List, ◌∷◌, ◌++◌, map, map-append}
use mathlib.Core.Logic.{inl, inr}
use Prim.Native.Nat.{ℕ, suc, ◌+◌, ◌*◌, ◌-◌, ◌≤◌, ◌<◌}
use native.Mathlib.Omega.{arith}
use lib.ListN.{length, take, drop, take-append-drop}
use lib.Seq.{length-take-le, take-append-add}
use Rattle.utf8.specs.Chars.{All}
use Rattle.utf8.proofs.CharLaws.{all_front, all_back}
use Rattle.memory_table.specs.declared.Row.{Row}
use Rattle.memory_table.specs.Table.{row_at}
use Rattle.memory_table.specs.Order.{Entry, entry_of, entry_at, entries, order, count_of}
use Rattle.memory_table.proofs.Order.{write_keeps}
use Rattle.model.specs.Text.{Text, sum}
use Rattle.model.specs.Limits.{chunk_pieces}
use Rattle.model.proofs.Lists.{sum_append, first_of, rest_of}
use Rattle.memory.specs.Layout.{Place, bytes_at, piece_at, run_of, chunk_of, magic_string_of}
use Rattle.memory.specs.WellFormed.{RunIn, RunsIn, EntryIn, Readable, HoldsEach, Disjoint, among, piece_uses, run_uses, list_uses, byte_uses, times}
use Rattle.memory_texts.specs.Over.{over}
use Rattle.model.specs.Insert.{push}
use Rattle.memory_texts.proofs.Over.{length_over, over_all}
use Rattle.memory_texts.proofs.Texts.{run_length, run_piece}
use Rattle.memory.proofs.Desks.{piece_front}
use Rattle.memory_list.specs.Find.{meets, First}
use Rattle.memory_list.specs.Insert.{runs_of}
use Rattle.memory_list.specs.Split.{RowSet, DeskSet}
use Rattle.memory_list.proofs.Split.{row_set, desk_set, entries_at}
use Rattle.edit_scratch.proofs.Front.{run_front}
use Rattle.memory_used.specs.declared.Used.{Used}
use Rattle.memory_used.specs.Below.{Below}
use Rattle.memory_used.proofs.Below.{run_below}
use Rattle.edit_room_above.proofs.Apart.{row_uses, store_uses, apart_after, run_uses_front, list_uses_front, sum_uses_front}
use Rattle.edit_room_above.proofs.Longer.{longer_rows, longer_texts, longer_below, longer_among, longer_uses}
use Rattle.edit_insert_row.specs.Added.{TextRoom, TextAdded}
use Rattle.memory_table.specs.Sides.{side, with_side}
use Rattle.edit_insert_side.specs.Piece.{Longer, PieceAdded}
use Rattle.edit_insert_side.proofs.Piece.{side_in}
use Rattle.edit_insert_side.specs.declared.Spot.{Spot}
use Rattle.edit_insert_side.specs.declared.Spot.TheVariants.{At, Whole}
use Rattle.edit_insert_side.specs.Insertion.{key_of}
use Rattle.edit_insert_side.specs.Spot.{RowFor}
use Rattle.edit_insert_in_place.specs.Added.{AddedOnTop, OnTop, TopReady}

below_in : (p s : List ℕ) (row byte : ℕ) (x : Place) → Below p byte row x → row * 2 ≤ length p → byte ≤ length s → RunIn p s x
unfolding RunIn
below_in p s row byte x b hr hb k g = record { row = omega (arith, (b k g).0); text = omega (arith, (b k g).1) }

-- a text put above a byte, and named by a run that is longer above a row
module _ {outro front : Bool} {text : List ℕ} {row byte : ℕ} {P S t t' P' S' : List ℕ} {i row' : ℕ} (room : TextRoom (side outro (entry_at t i)) text P S row byte)
    (h : RunIn (take (row * 2) P) (take byte S) (side outro (entry_at t i))) (d : TextAdded outro front text row byte t P S t' P' S' i row') where
  abbrev x : Place
  x = side outro (entry_at t i)

  store_after : S' ≡ take byte S ++ (text ++ drop (byte + length text) S)
  unfolding over
  store_after = d.store_is

  rows_front : P ≡ take (row * 2) P ++ drop (row * 2) P
  rows_front = sym (take-append-drop (row * 2) P)

  -- the run's texts lie below
  old_texts : run_of P S' x ≡ run_of (take (row * 2) P) (take byte S) x
  old_texts =
      ap₂ (λ (a b : List ℕ). run_of a b x) rows_front store_after
      ∙ run_front (take (row * 2) P) (take byte S) (drop (row * 2) P) (text ++ drop (byte + length text) S) x h

  new_text : bytes_at S' (byte, length text) ≡ text
  new_text = ap (λ (l : List ℕ). bytes_at l (byte, length text)) d.store_is ∙ over_all S byte text (omega (arith, room.bytes_in))

  old_end : (k : ℕ) → k < x.1 → (piece_at P (x.0 + k)).0 + (piece_at P (x.0 + k)).1 ≤ byte + length text
  unfolding RunIn
  old_end k g =
      let e : piece_at P (x.0 + k) ≡ piece_at (take (row * 2) P) (x.0 + k) =
      ap (λ (l : List ℕ). piece_at l (x.0 + k)) rows_front ∙ piece_front (take (row * 2) P) (drop (row * 2) P) (x.0 + k) (h k g).row in
      omega (arith, ap (λ (z : Place). z.0 + z.1) e, (h k g).text, length-take-le byte S (omega (arith, room.bytes_in)))

  old_uses : (b : ℕ) → run_uses P b x ≡ run_uses (take (row * 2) P) b x
  old_uses b = ap (λ (l : List ℕ). run_uses l b x) rows_front ∙ run_uses_front (take (row * 2) P) (take byte S) (drop (row * 2) P) b x h

  pub added_on_top : AddedOnTop outro front text row byte P S t t' P' S' i row'
  added_on_top =
      let first = d.added.first in
      let z = d.added.longer in
      let fits : byte + length text ≤ length S' = omega (arith, ap length d.store_is, length_over S byte text room.bytes_in, room.bytes_in) in
      let to : row' * 2 ≤ length P' = omega (arith, room.rows.rows_in, z.to, z.length_is, d.added.above_is) in
      let below : Below P' (byte + length text) row' (first, suc x.1) = rw d.added.above_is (longer_below z (byte + length text) (omega arith) old_end) in
      record {
        added =
            record {
              run = (first, suc x.1);
              longer =
                  record {
                    behind = drop (row * 2) P';
                    after = text ++ drop (byte + length text) S;
                    pieces = longer_rows z;
                    store = store_after;
                    texts = longer_texts z S' ∙ ap₂ (λ (u : Text) (l : List Text). push front u l) new_text old_texts;
                    run_in = below_in P' S' row' (byte + length text) (first, suc x.1) below to fits;
                  };
              put = d.added.put;
            };
        below = below;
        from = omega (arith, z.from, d.added.above_is);
        to = to;
        bytes_to = fits;
        rows = longer_among z;
        uses = λ b. longer_uses z b ∙ ap (λ (n : ℕ). n + among (byte, length text) b) (old_uses b);
      }

-- what lies below a row and a byte that a run is below is longer by it too
longer_cut : {p s : List ℕ} {front : Bool} {text : List ℕ} {x : Place} {p' s' : List ℕ} {y : Place} (row byte : ℕ) → Longer p s front text x p' s' y → Below p' byte row y
    → row * 2 ≤ length p' → byte ≤ length s' → length p ≤ row * 2 → length s ≤ byte → Longer p s front text x (take (row * 2) p') (take byte s') y
longer_cut {p} {s} {p' = p'} {s'} {y} row byte l b hr hb lp ls =
    let inside = run_below p' s' byte row hr hb y b in
    let er : row * 2 ≡ length p + (row * 2 - length p) = omega arith in
    let eb : byte ≡ length s + (byte - length s) = omega arith in
    record {
      behind = take (row * 2 - length p) l.behind;
      after = take (byte - length s) l.after;
      pieces = ap₂ take er l.pieces ∙ take-append-add p l.behind (row * 2 - length p);
      store = ap₂ take eb l.store ∙ take-append-add s l.after (byte - length s);
      texts =
          sym (run_front (take (row * 2) p') (take byte s') (drop (row * 2) p') (drop byte s') y inside)
          ∙ ap₂ (λ (a c : List ℕ). run_of a c y) (take-append-drop (row * 2) p') (take-append-drop byte s') ∙ l.texts;
      run_in = inside;
    }

each_kept : (t t' : List ℕ) → order t' ≡ order t → count_of t' ≡ count_of t → HoldsEach t → HoldsEach t'
each_kept t t' o c h i a b = ap (times i) o ∙ h i a (omega arith)

-- ── one row's uses ──
side_rows : (outro : Bool) (r : Row) (y : Place) (j n : ℕ) → among y j ≤ among (side outro (entry_of r)) j + n → piece_uses j (entry_of (with_side outro y r)) ≤ piece_uses j (entry_of r) + n
side_rows true r y j n h = omega arith
side_rows false r y j n h = omega arith

side_bytes : (outro : Bool) (r : Row) (y : Place) (p s z : List ℕ) (b n : ℕ) → RunsIn p s (entry_of r) → run_uses (p ++ z) b y ≡ run_uses p b (side outro (entry_of r)) + n
    → list_uses (p ++ z) b (entry_of (with_side outro y r)) ≡ list_uses p b (entry_of r) + n
side_bytes true r y p s z b n h e = omega (arith, run_uses_front p s z b (entry_of r).intro h.intro)
side_bytes false r y p s z b n h e = omega (arith, run_uses_front p s z b (entry_of r).outro h.outro)

module _ (outro front : Bool) (text : List ℕ) (row byte : ℕ) (P S t t' P' S' : List ℕ) (i row' : ℕ) (a : AddedOnTop outro front text row byte P S t t' P' S' i row')
    (h : Readable t (take (row * 2) P) (take byte S)) (len : length t' ≡ length t) (hr : row * 2 ≤ length P) (hb : byte ≤ length S) where
  abbrev p : List ℕ
  p = take (row * 2) P

  abbrev s : List ℕ
  s = take byte S

  abbrev z : List ℕ
  z = a.added.longer.behind

  abbrev y : Place
  y = a.added.run

  new_uses : (b : ℕ) → run_uses (p ++ z) b y ≡ run_uses p b (side outro (entry_at t i)) + among (byte, length text) b
  new_uses b = ap (λ (l : List ℕ). run_uses l b y) (sym a.added.longer.pieces) ∙ a.uses b

  -- nothing of it lies above
  pub cut : PieceAdded outro front text p s t t' (take (row' * 2) P') (take (byte + length text) S') i
  cut =
      record {
        run = y;
        longer =
            longer_cut row' (byte + length text) a.added.longer a.below a.to a.bytes_to
            (omega (arith, a.from, length-take-le (row * 2) P hr)) (omega (arith, length-take-le byte S hb));
        put = a.added.put;
      }

  apart_on_top : ((j : ℕ) → row_uses t' j ≤ row_uses t j + among (row, y.1) j) → ((b : ℕ) → store_uses t' (p ++ z) b ≤ store_uses t p b + among (byte, length text) b)
      → Disjoint t P → Disjoint t' P'
  apart_on_top rows bytes d =
      subst (Disjoint t') (sym a.added.longer.pieces)
      (apart_after t t' p s (drop (row * 2) P) z (row, y.1) (byte, length text) h (subst (Disjoint t) (sym (take-append-drop (row * 2) P)) d)
      (omega (arith, length-take-le (row * 2) P hr)) (omega (arith, length-take-le byte S hb)) rows bytes)

  -- a chunk of the list
  module _ (us bs : List ℕ) (o : order t ≡ us ++ i ∷ bs) where
    set : RowSet t t' i (entry_of (with_side outro y (row_at t i)))
    set = row_set t t' i (with_side outro y (row_at t i)) h.linked (record { us = us; bs = bs; place = o }) a.added.put refl refl len

    abbrev xs : List Entry
    xs = map (entry_at t) us

    abbrev ys : List Entry
    ys = map (entry_at t) bs

    abbrev e : Entry
    e = entry_at t i

    abbrev e' : Entry
    e' = entry_of (with_side outro y (row_at t i))

    before : entries t ≡ xs ++ e ∷ ys
    before = entries_at t us i bs o

    after : entries t' ≡ xs ++ e' ∷ ys
    after = set.place us bs o

    all_in : All (EntryIn p s) (xs ++ e ∷ ys)
    all_in = subst (All (EntryIn p s)) before h.chunks

    mid_in : All (EntryIn p s) (e ∷ ys)
    mid_in = all_back (EntryIn p s) xs (e ∷ ys) all_in

    found_rows : (j : ℕ) → row_uses t' j ≤ row_uses t j + among (row, y.1) j
    found_rows j =
        omega (
          arith,
          ap (λ (x : Place × Place). among x.0 j + among x.1 j) set.desk,
          ap (sum (piece_uses j)) before,
          ap (sum (piece_uses j)) after,
          sum_append (piece_uses j) xs (e ∷ ys),
          sum_append (piece_uses j) xs (e' ∷ ys),
          side_rows outro (row_at t i) y j (among (row, y.1) j) (a.rows j),
        )

    found_bytes : (b : ℕ) → store_uses t' (p ++ z) b ≤ store_uses t p b + among (byte, length text) b
    found_bytes b =
        omega (
          arith,
          ap (λ (x : Place × Place). run_uses (p ++ z) b x.0 + run_uses (p ++ z) b x.1) set.desk,
          list_uses_front p s z b (entry_at t 0) h.desk,
          ap (sum (byte_uses p b)) before,
          ap (sum (byte_uses (p ++ z) b)) after,
          sum_append (byte_uses p b) xs (e ∷ ys),
          sum_append (byte_uses (p ++ z) b) xs (e' ∷ ys),
          sum_uses_front p s z b (all_front (EntryIn p s) xs (e ∷ ys) all_in),
          sum_uses_front p s z b (rest_of mid_in),
          side_bytes outro (row_at t i) y p s z b (among (byte, length text) b) (first_of mid_in).runs (new_uses b),
        )

    pub found_on_top : OnTop t P t' P'
    found_on_top = record { each = each_kept t t' set.order_is set.count; apart = apart_on_top found_rows found_bytes; count = set.count }

module _ (outro front : Bool) (text : List ℕ) (row byte : ℕ) (P S t t' P' S' : List ℕ) (row' : ℕ) (a : AddedOnTop outro front text row byte P S t t' P' S' 0 row')
    (h : Readable t (take (row * 2) P) (take byte S)) (len : length t' ≡ length t) (hr : row * 2 ≤ length P) (hb : byte ≤ length S) where
  abbrev w : Row
  w = with_side outro a.added.run (row_at t 0)

  whole_set : DeskSet t t' (runs_of w)
  whole_set = desk_set t t' w h.linked a.added.put refl refl refl len

  whole_order : order t' ≡ order t
  whole_order = (write_keeps t t' 0 w a.added.put refl refl (λ _. refl) len h.linked).0

  -- the head or the tail
  pub whole_on_top : OnTop t P t' P'
  whole_on_top =
      let q = take (row * 2) P in
      let k = take byte S in
      let z = a.added.longer.behind in
      let y = a.added.run in
      record {
        each = each_kept t t' whole_order whole_set.count;
        apart =
            apart_on_top outro front text row byte P S t t' P' S' 0 row' a h len hr hb
            (λ j. omega (
              arith,
              ap (λ (x : Place × Place). among x.0 j + among x.1 j) whole_set.desk,
              ap (sum (piece_uses j)) whole_set.chunks,
              side_rows outro (row_at t 0) y j (among (row, y.1) j) (a.rows j),
            ))
            (λ b. omega (
              arith,
              ap (λ (x : Place × Place). run_uses (q ++ z) b x.0 + run_uses (q ++ z) b x.1) whole_set.desk,
              ap (sum (byte_uses (q ++ z) b)) whole_set.chunks,
              sum_uses_front q k z b h.chunks,
              side_bytes outro (row_at t 0) y q k z b (among (byte, length text) b) h.desk (new_uses outro front text row byte P S t t' P' S' 0 row' a h len hr hb b),
            ));
        count = whole_set.count;
      }

-- ── room for it ──
room_of : (t P S text : List ℕ) (l : Used) (x : Place) → TopReady t P S text l → RunIn (take (l.row * 2) P) (take l.byte S) x → x.1 ≤ l.pieces → TextRoom x text P S l.row l.byte
room_of t P S text l x k h f =
    let lp = length-take-le (l.row * 2) P (omega (arith, k.rows)) in
    record {
      rows =
          record {
            under = λ g. let q = (run_piece (take (l.row * 2) P) (take l.byte S) x.0 x.1 (x.1 - 1) h (omega arith)).row in omega arith;
            rows_in = omega (arith, k.rows);
          };
      bytes_in = omega (arith, k.bytes);
      narrow = omega (arith, k.lent_store);
    }

side_few : (outro : Bool) (p s : List ℕ) (e : Entry) (n : ℕ) → length (run_of p s e.intro) + length (run_of p s e.outro) ≤ n → (side outro e).1 ≤ n
side_few true p s e n h = omega (arith, run_length p s e.outro.0 e.outro.1)
side_few false p s e n h = omega (arith, run_length p s e.intro.0 e.intro.1)

pub whole_ready : (outro : Bool) (t P S text : List ℕ) (l : Used) → TopReady t P S text l
    → TextRoom (side outro (entry_at t 0)) text P S l.row l.byte × RunIn (take (l.row * 2) P) (take l.byte S) (side outro (entry_at t 0))
unfolding magic_string_of
whole_ready outro t P S text l k =
    let h = side_in outro (entry_at t 0) k.readable.desk in
    (room_of t P S text l (side outro (entry_at t 0)) k h (side_few outro (take (l.row * 2) P) (take l.byte S) (entry_at t 0) l.pieces (omega (arith, k.pieces))), h)

pub found_ready : (outro : Bool) (f : Entry → Bool) (t P S text : List ℕ) (i : ℕ) (l : Used) → First f t i → TopReady t P S text l
    → TextRoom (side outro (entry_at t i)) text P S l.row l.byte × RunIn (take (l.row * 2) P) (take l.byte S) (side outro (entry_at t i))
unfolding magic_string_of
found_ready outro f t P S text i l w k =
    let p = take (l.row * 2) P in
    let s = take l.byte S in
    let xs = map (entry_at t) w.us in
    let ys = map (entry_at t) w.bs in
    let e = entries_at t w.us i w.bs w.place in
    let h = side_in outro (entry_at t i) (first_of (all_back (EntryIn p s) xs (entry_at t i ∷ ys) (subst (All (EntryIn p s)) e k.readable.chunks))).runs in
    let q = ap (λ (es : List Entry). sum chunk_pieces (map (chunk_of p s) es)) e ∙ ap (sum chunk_pieces) (map-append (chunk_of p s) xs (entry_at t i ∷ ys))
    ∙ sum_append chunk_pieces (map (chunk_of p s) xs) (map (chunk_of p s) (entry_at t i ∷ ys)) in
    (room_of t P S text l (side outro (entry_at t i)) k h (side_few outro p s (entry_at t i) l.pieces (omega (arith, k.pieces, q))), h)

pub ready_for : (spot : Spot) (t P S text : List ℕ) (i : ℕ) (outro : Bool) (l : Used) → RowFor spot t i outro → TopReady t P S text l
    → TextRoom (side outro (entry_at t i)) text P S l.row l.byte × RunIn (take (l.row * 2) P) (take l.byte S) (side outro (entry_at t i))
ready_for (At q left) t P S text i outro l (inl w) k = found_ready outro (meets (key_of left) q) t P S text i l w.0 k
ready_for (At q left) t P S text i outro l (inr w) k = rw w.1 (whole_ready outro t P S text l k)
ready_for (Whole o) t P S text i outro l w k = rw w.0 (whole_ready outro t P S text l k)
