-- Laws of what `Calls` in specs/ defines.
use mathlib.Core.Path.{◌≡◌, refl, sym, ap, ◌∙◌, subst}
use mathlib.Core.Bool.{Bool, true, false, not, cond}
use mathlib.Core.List.{List, [], ◌∷◌}
use mathlib.Core.Option.{Option, none, some}
use mathlib.Core.Logic.{inl, inr}
use Prim.Native.Nat.{ℕ, suc, ◌+◌, ◌-◌, ◌*◌, ◌/◌, ◌≤◌}
use native.Mathlib.Omega.{arith}
use lib.Dec.{eqb}
use lib.ListN.{length, take}
use Rattle.memory_layout.specs.Layout.{ROW}
use Rattle.memory_table.specs.Order.{count_of}
use Rattle.model.specs.Text.{Text, sum}
use Rattle.model.specs.Chunk.{Chunk, Texts, with_texts}
use Rattle.model.specs.MagicString.{MagicString, Result, ok, err, and_then, with_chunks, with_whole, edge, by_edge, at_edge}
use Rattle.model.specs.Insert.{push, push_to, insert_step}
use Rattle.model.proofs.Insert.{push_length, push_sum}
use Rattle.model.specs.Limits.{within, chunk_pieces, chunk_bytes, byte_count, piece_count}
use Rattle.memory.specs.Layout.{magic_string_of}
use Rattle.memory.specs.WellFormed.{limits_of, Readable}
use Rattle.memory.specs.Calls.{Ran}
use Rattle.memory.proofs.Desks.{chunk_count, source_of, keeps_within}
use Rattle.edit_row_laws.specs.Kept.{Kept}
use Rattle.edit_row_laws.proofs.Kept.{kept_apart, fewer_pieces, fewer_bytes}
use Rattle.edit_scratch.proofs.Tables.{may_write_0, ran_same}
use Rattle.edit_in_place.proofs.InPlace.{ran_in_place, above_kept}
use Rattle.edit_split_at.specs.Cuts.{CutsDone, CutsLeave}
use Rattle.edit_split_at.proofs.Cuts.{formed_spans, stop}
use Rattle.memory_used.specs.declared.Used.{Used}
use Rattle.memory_used.specs.Above.{Above, Desk}
use Rattle.edit_room_above.specs.Live.{Room}
use Rattle.edit_room_above.proofs.Bounds.{read_below}
use Rattle.edit_room_above.proofs.Finishing.{bytes_below}
use Rattle.edit_insert_side.specs.declared.Spot.{Spot}
use Rattle.edit_insert_side.specs.declared.Spot.TheVariants.{At, Whole}
use Rattle.edit_insert_side.specs.Spot.{adding, cuts_at, piece_step, RowFor}
use Rattle.edit_insert_side.proofs.Insertion.{inserted_for}
use Rattle.edit_insert_side.specs.Calls.{InsertRan}
use Rattle.edit_insert_side.proofs.Calls.{adding_is, refused_same}
use Rattle.edit_insert_in_place.specs.Added.{AddedOnTop, OnTop, TopReady}
use Rattle.edit_insert_in_place.proofs.Added.{cut, found_on_top, whole_on_top}
use Rattle.edit_insert_in_place.specs.Calls.{grown, InsertedTop}

-- ── the limits ──
-- a piece more, of the text t
pub record OneMore (t : Text) (m m' : MagicString) : Type 0 where
  pub pieces : piece_count m' ≤ piece_count m + 1
  pub bytes : byte_count m' ≤ byte_count m + length t
  pub chunks : length m'.chunks ≡ length m.chunks

module _ (left : Bool) (q : ℕ) (f : Texts → Texts) where
  edge_more : (w : Chunk → ℕ) (n : ℕ) → ((c : Chunk) → w (with_texts f c) ≤ w c + n) → (cs : List Chunk) → sum w (at_edge left q f cs) ≤ sum w cs + n
  edge_more w n more [] = omega arith
  edge_more w n more (c ∷ cs) = go (edge_more w n more cs) (eqb (edge left c.span) q)
    where
      go : sum w (at_edge left q f cs) ≤ sum w cs + n → (b : Bool) → sum w (cond b (with_texts f c ∷ cs) (c ∷ at_edge left q f cs)) ≤ w c + sum w cs + n
      go ih true = omega (arith, more c)
      go ih false = omega arith

  edge_length : (cs : List Chunk) → length (at_edge left q f cs) ≡ length cs
  edge_length [] = refl
  edge_length (c ∷ cs) = go (edge_length cs) (eqb (edge left c.span) q)
    where
      go : length (at_edge left q f cs) ≡ length cs → (b : Bool) → length (cond b (with_texts f c ∷ cs) (c ∷ at_edge left q f cs)) ≡ suc (length cs)
      go ih true = refl
      go ih false = ap suc ih

push_pieces : (left front : Bool) (t : Text) (c : Chunk) → chunk_pieces (with_texts (push_to left front t) c) ≤ chunk_pieces c + 1
push_pieces true front t c = omega (arith, push_length front t c.texts.outro)
push_pieces false front t c = omega (arith, push_length front t c.texts.intro)

push_bytes : (left front : Bool) (t : Text) (c : Chunk) → chunk_bytes (with_texts (push_to left front t) c) ≤ chunk_bytes c + length t
push_bytes true front t c = omega (arith, push_sum front t c.texts.outro)
push_bytes false front t c = omega (arith, push_sum front t c.texts.intro)

pub whole_more : (left front : Bool) (t : Text) (m : MagicString) → OneMore t m (with_whole left m (push front t))
whole_more true front t m = record { pieces = omega (arith, push_length front t m.intro); bytes = omega (arith, push_sum front t m.intro); chunks = refl }
whole_more false front t m = record { pieces = omega (arith, push_length front t m.outro); bytes = omega (arith, push_sum front t m.outro); chunks = refl }

pub step_more : (left front : Bool) (q : ℕ) (t : Text) (m : MagicString) → OneMore t m (insert_step q t left front m).desk
step_more left front q t m = go (by_edge left q m.chunks)
  where
    f : Texts → Texts
    f = push_to left front t

    go : (o : Option Chunk) → OneMore t m (elim o as (λ _. Result) [ none ↦ ok (with_whole left m (push front t)) | some c ↦ ok (with_chunks m (at_edge left q f m.chunks)) ]).desk
    go none = whole_more left front t m
    go (some c) =
        record {
          pieces = omega (arith, edge_more left q f chunk_pieces 1 (push_pieces left front t) m.chunks);
          bytes = omega (arith, edge_more left q f chunk_bytes (length t) (push_bytes left front t) m.chunks);
          chunks = edge_length left q f m.chunks;
        }

spot_more : (spot : Spot) (front : Bool) (t : Text) (m : MagicString) → OneMore t m (piece_step spot front t m).desk
spot_more (At q left) front t m = step_more left front q t m
spot_more (Whole outro) front t m = whole_more (not outro) front t m

-- the rows and the bytes below a bound
abbrev used_rows_below : Used → List ℕ → List ℕ
used_rows_below l P = take (l.row * 2) P

abbrev used_bytes_below : Used → List ℕ → List ℕ
used_bytes_below l S = take l.byte S

-- ── ready for the piece, before the cut or behind it ──
module _ {source t P S t1 : List ℕ} {l : Used} {n : ℕ} (text : List ℕ) (w : Desk source t P S l) (rm : Room (length t) (length P) (length S) l n (length text))
    (h : Readable t1 (used_rows_below l P) (used_bytes_below l S)) (k : Kept t t1) where
  pieces_after : piece_count (magic_string_of [] t1 (used_rows_below l P) (used_bytes_below l S)) ≤ l.pieces
  pieces_after = omega (arith, ap piece_count (read_below t1 P S l.row l.byte h []), fewer_pieces k P S, w.above.pieces)

  bytes_after : byte_count (magic_string_of [] t1 (used_rows_below l P) (used_bytes_below l S)) ≤ l.byte
  bytes_after = omega (arith, ap byte_count (read_below t1 P S l.row l.byte h []), fewer_bytes k P S, bytes_below w.well_formed.disjoint w.above)

  pub ready_after : TopReady t1 P S text l
  ready_after =
      record {
        readable = h;
        pieces = pieces_after;
        rows = rm.rows;
        bytes = rm.places;
        lent_pieces = w.well_formed.sized.pieces;
        lent_store = w.well_formed.sized.store;
      }

  -- with one piece more it keeps the limits, and the bound with one more is above it
  module _ (t' P' S' : List ℕ) (o : OneMore text (magic_string_of [] t1 (used_rows_below l P) (used_bytes_below l S)) (magic_string_of [] t' P' S')) where
    within_after : count_of t1 ≤ length t / ROW - 1 → within (limits_of t P S) (magic_string_of [] t' P' S') ≡ true
    within_after c =
        keeps_within
        (record {
          source = rw (source_of [] t' P' S') (omega arith);
          chunks = omega (arith, o.chunks, chunk_count [] t1 (used_rows_below l P) (used_bytes_below l S));
          pieces = omega (arith, o.pieces, pieces_after, rm.pieces);
          bytes = omega (arith, o.bytes, bytes_after, rm.places);
        })

    above_after : (row : ℕ) → Readable t' (take (row * 2) P') (take (l.byte + length text) S') → row * 2 ≤ length P' → length P' ≡ length P → length S' ≡ length S
        → Above t' P' S' (grown l row (length text))
    above_after row low to lp ls =
        record {
          pieces = omega (arith, o.pieces, pieces_after);
          few = omega (arith, rm.pieces, lp);
          readable = low;
          row = to;
          byte = omega (arith, rm.places, ls);
        }

-- ── the piece behind the cut ──
module _ (spot : Spot) (outro front : Bool) (text P S t t' P' S' : List ℕ) (l : Used) (i row' : ℕ) (k : TopReady t P S text l) (len : length t' ≡ length t)
    (a : AddedOnTop outro front text l.row l.byte P S t t' P' S' i row') where
  rows_in : l.row * 2 ≤ length P
  rows_in = omega (arith, k.rows)

  bytes_in : l.byte ≤ length S
  bytes_in = omega (arith, k.bytes)

  on_row_0 : i ≡ 0 → OnTop t P t' P'
  on_row_0 e =
      whole_on_top outro front text l.row l.byte P S t t' P' S' row' (subst (λ (j : ℕ). AddedOnTop outro front text l.row l.byte P S t t' P' S' j row') e a) k.readable len rows_in bytes_in

  on_row : (x : Spot) → RowFor x t i outro → OnTop t P t' P'
  on_row (At q left) (inl w) = found_on_top outro front text l.row l.byte P S t t' P' S' i row' a k.readable len rows_in bytes_in w.0.us w.0.bs w.0.place
  on_row (At q left) (inr w) = on_row_0 w.1
  on_row (Whole o) w = on_row_0 w.0

  pub top_for : RowFor spot t i outro → InsertedTop spot front text l.row l.byte t P S t' P' S' row'
  top_for w =
      record {
        did = inserted_for text (used_rows_below l P) (used_bytes_below l S) t t' P' S' front k.readable len spot w a.added;
        top = on_row spot w;
        low =
            (inserted_for text (used_rows_below l P) (used_bytes_below l S) t t' _ _ front k.readable len spot w
            (cut outro front text l.row l.byte P S t t' P' S' i row' a k.readable len rows_in bytes_in) []).readable;
        to = a.to;
      }

-- ── the call ──
module _ (spot : Spot) (front : Bool) (text : List ℕ) {source t P S t1 : List ℕ} {l : Used} {r v : ℕ} (w : Desk source t P S l)
    (rm : Room (length t) (length P) (length S) l (count_of t + length (cuts_at spot)) (length text)) (c : CutsDone (cuts_at spot) t t1 r v) where
  cut_low : Readable t1 (used_rows_below l P) (used_bytes_below l S)
  cut_low = c.readable (used_rows_below l P) (used_bytes_below l S) w.above.readable

  pub top_ready : TopReady t1 P S text l
  top_ready = ready_after text w rm cut_low c.kept

  few : count_of t1 ≤ length t / ROW - 1
  few = omega (arith, c.count, c.few, rm.chunks)

  leave : CutsLeave (cuts_at spot) source t P S t1 r
  leave = c.leave source P S w.well_formed.readable (formed_spans w.well_formed)

  pub top_refused : length t1 ≡ length t → (r ≡ 0 → ⊥) → InsertRan spot front text source t P S t1 P S r v × Above t1 P S l
  top_refused len n = (
    λ e h q' i.
        let z : t1 ≡ t = refused_same spot c n in
        let step = piece_step spot front text in
        let none : v ≡ 0 = omega (arith, c.count, ap count_of z) in
        subst (λ (u : List ℕ). Ran e source t P S u P S r v) (sym z)
        (rw none (ran_same e source t P S r w.well_formed h
        (q' (magic_string_of source t P S) ∙ adding_is spot front text (magic_string_of source t P S) ∙ leave.result step ∙ stop r (magic_string_of source t1 P S) step n ∙ ap (λ (u : List ℕ). err r (magic_string_of source u P S)) z))),
    above_kept c.kept cut_low w.above,
  )

  module _ (t' P' S' : List ℕ) (row' : ℕ) (z : r ≡ 0) (x : InsertedTop spot front text l.row l.byte t1 P S t' P' S' row') (len1 : length t1 ≡ length t)
      (len : length t' ≡ length t1) (lp : length P' ≡ length P) (ls : length S' ≡ length S) where
    one_more : OneMore text (magic_string_of [] t1 (used_rows_below l P) (used_bytes_below l S)) (magic_string_of [] t' P' S')
    one_more =
        let m = magic_string_of [] t1 (used_rows_below l P) (used_bytes_below l S) in
        subst (OneMore text m) (ap (λ (y : Result). y.desk) (x.did []).result) (spot_more spot front text m)

    cut_made : adding spot front text (magic_string_of source t P S) ≡ piece_step spot front text (magic_string_of source t1 P S)
    cut_made = adding_is spot front text (magic_string_of source t P S) ∙ leave.result (piece_step spot front text) ∙ ap (λ (n : ℕ). and_then (err n (magic_string_of source t1 P S)) (piece_step spot front text)) z

    top_inserted : InsertRan spot front text source t P S t' P' S' 0 v
    top_inserted e h q' i =
        ran_in_place w.well_formed h
        (record {
          readable = (x.did source).readable;
          result =
              q' (magic_string_of source t P S) ∙ cut_made
              ∙ ap (piece_step spot front text) (read_below t1 P S l.row l.byte cut_low source)
              ∙ (x.did source).result;
          cuts = omega (arith, c.count, (x.did source).cuts);
        })
        (may_write_0 e i)
        (record { chunks = len ∙ len1; pieces = lp; store = ls })
        (x.top.each (c.kept.each w.well_formed.each))
        (x.top.apart (kept_apart c.kept P w.well_formed.disjoint))
        (within_after text w rm cut_low c.kept t' P' S' one_more few)

    top_above : Above t' P' S' (grown l row' (length text))
    top_above = above_after text w rm cut_low c.kept t' P' S' one_more row' x.low x.to lp ls

    pub top_made : InsertRan spot front text source t P S t' P' S' 0 v × Above t' P' S' (grown l row' (length text))
    top_made = (top_inserted, top_above)
