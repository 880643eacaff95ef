-- Laws of what `Insertion` in specs/ defines.
use mathlib.Core.Path.{◌≡◌, refl, sym, ap, ◌∙◌, subst}
use mathlib.Core.Bool.{Bool, true, false, not}
use mathlib.Core.List.{List, [], ◌∷◌, ◌++◌, map, map-append}
use mathlib.Core.Logic.{inl, inr}
use Prim.Native.Nat.{ℕ, ◌+◌, ◌*◌, ◌≤◌}
use native.Mathlib.Omega.{arith}
use lib.Dec.{eqb}
use lib.ListN.{length}
use Rattle.memory_layout.specs.Layout.{ROW}
use Rattle.utf8.specs.Chars.{All, nil, cons}
use Rattle.utf8.proofs.CharLaws.{all_front, all_back}
use Rattle.memory_table.specs.declared.Row.{Row}
use Rattle.memory_table.specs.Ring.{Each}
use Rattle.memory_table.specs.Table.{row_at, Put}
use Rattle.memory_table.specs.Order.{Entry, entry_of, entry_at, entries, order, count_of, Linked}
use Rattle.memory_table.proofs.Order.{inside_at}
use Rattle.model.specs.Text.{Text}
use Rattle.model.specs.Chunk.{Chunk, with_texts}
use Rattle.model.specs.MagicString.{MagicString, Result, ok, with_chunks, with_whole, edge, by_edge, at_edge}
use Rattle.model.specs.Insert.{push, push_to, insert_step}
use Rattle.model.proofs.Lists.{first_of, rest_of, all_append, same_around}
use Rattle.memory.specs.Layout.{Place, run_of, chunk_of, magic_string_of}
use Rattle.memory.specs.WellFormed.{RunIn, EntryIn, Readable}
use Rattle.memory.proofs.Desks.{chunks_of, desk_same}
use Rattle.memory_list.specs.Find.{meets, First}
use Rattle.memory_list.specs.Insert.{runs_of}
use Rattle.memory_list.specs.Split.{RowSet, DeskSet}
use Rattle.memory_list.proofs.Split.{row_set, desk_set, entries_at}
use Rattle.edit_scratch.proofs.Front.{run_in_front, run_front, text_in_front, text_front, entries_front, chunks_front}
use Rattle.edit_scratch.specs.Tables.{Did}
use Rattle.edit_split_at.specs.Lift.{RunSmall, EntrySmall, DeskSmall}
use Rattle.model_closed_forms.proofs.Found.{edge_at, edge_none, edge_set, some_is, none_is}
use Rattle.memory_table.specs.Sides.{side, with_side}
use Rattle.edit_insert_side.specs.Piece.{PieceAdded}
use Rattle.edit_insert_side.proofs.Piece.{side_in}
use Rattle.edit_insert_side.specs.declared.Spot.{Spot}
use Rattle.edit_insert_side.specs.declared.Spot.TheVariants.{At, Whole}
use Rattle.edit_insert_side.specs.Insertion.{whole_add, key_of}
use Rattle.edit_insert_side.specs.Spot.{piece_step, RowFor}

-- ── the step where the chunk is known ──
abbrev keyed : Bool → ℕ → Chunk → Bool
keyed left q c = eqb (edge left c.span) q

module _ (left front : Bool) (q : ℕ) (t : Text) (m : MagicString) where
  abbrev in_whole : Result
  in_whole = ok (with_whole left m (push front t))

  abbrev in_chunk : Result
  in_chunk = ok (with_chunks m (at_edge left q (push_to left front t) m.chunks))

  step_found : (xs : List Chunk) (c : Chunk) (ys : List Chunk) → m.chunks ≡ xs ++ c ∷ ys → All (λ d. keyed left q d ≡ false) xs → keyed left q c ≡ true
      → insert_step q t left front m ≡ ok (with_chunks m (xs ++ with_texts (push_to left front t) c ∷ ys))
  step_found xs c ys e n h =
      some_is (by_edge left q m.chunks) c in_whole in_chunk (ap (by_edge left q) e ∙ edge_at left q c ys n h)
      ∙ ap (λ (l : List Chunk). ok (with_chunks m l)) (ap (at_edge left q (push_to left front t)) e ∙ edge_set left q (push_to left front t) c ys n h)

  step_whole : All (λ d. keyed left q d ≡ false) m.chunks → insert_step q t left front m ≡ in_whole
  step_whole n = none_is (by_edge left q m.chunks) in_whole in_chunk (edge_none left q n)

not_not : (b : Bool) → not (not b) ≡ b
not_not true = refl
not_not false = refl

-- ── from rows ──
none_keyed : (left : Bool) (p s : List ℕ) (q : ℕ) (t xs : List ℕ) → Each (λ x. meets (key_of left) q (entry_at t x) ≡ false) xs →
    All (λ d. keyed left q d ≡ false) (map (chunk_of p s) (map (entry_at t) xs))
none_keyed left p s q t [] h = nil
none_keyed true p s q t (x ∷ xs) h = cons {x = chunk_of p s (entry_at t x)} h.0 (none_keyed true p s q t xs h.1)
none_keyed false p s q t (x ∷ xs) h = cons {x = chunk_of p s (entry_at t x)} h.0 (none_keyed false p s q t xs h.1)

here_keyed : (left : Bool) (p s : List ℕ) (q : ℕ) (e : Entry) → meets (key_of left) q e ≡ true → keyed left q (chunk_of p s e) ≡ true
here_keyed true p s q e h = h
here_keyed false p s q e h = h

-- an entry with a longer outro, or intro
module _ (p s y z : List ℕ) (front : Bool) (text : List ℕ) (run : Place) where
  lift_piece : (outro : Bool) (r : Row) → run_of (p ++ y) (s ++ z) run ≡ push front text (run_of p s (side outro (entry_of r))) → EntryIn p s (entry_of r)
      → chunk_of (p ++ y) (s ++ z) (entry_of (with_side outro run r)) ≡ with_texts (push_to outro front text) (chunk_of p s (entry_of r))
  lift_piece true r e h = rw (e, run_front p s y z (entry_of r).intro h.runs.intro, text_front p s y z (entry_of r).text h.replacement)
  lift_piece false r e h = rw (e, run_front p s y z (entry_of r).outro h.runs.outro, text_front p s y z (entry_of r).text h.replacement)

  piece_in : (outro : Bool) (r : Row) → RunIn (p ++ y) (s ++ z) run → EntryIn p s (entry_of r) → EntryIn (p ++ y) (s ++ z) (entry_of (with_side outro run r))
  piece_in true r e h = record { runs = record { intro = run_in_front p s y z _ h.runs.intro; outro = e }; replacement = text_in_front p s y z (entry_of r).text h.replacement }
  piece_in false r e h = record { runs = record { intro = e; outro = run_in_front p s y z _ h.runs.outro }; replacement = text_in_front p s y z (entry_of r).text h.replacement }

  lift_whole : (outro : Bool) (source t t' : List ℕ) → run_of (p ++ y) (s ++ z) run ≡ push front text (run_of p s (side outro (entry_at t 0))) → Readable t p s
      → DeskSet t t' (runs_of (with_side outro run (row_at t 0))) → magic_string_of source t' (p ++ y) (s ++ z) ≡ whole_add outro front text (magic_string_of source t p s)
  unfolding magic_string_of
  lift_whole true source t t' e h d =
      desk_same source (ap (λ (x : (ℕ × ℕ) × (ℕ × ℕ)). run_of (p ++ y) (s ++ z) x.0) d.desk ∙ run_front p s y z _ h.desk.intro)
      (ap (λ (x : (ℕ × ℕ) × (ℕ × ℕ)). run_of (p ++ y) (s ++ z) x.1) d.desk ∙ e)
      (ap (map (chunk_of (p ++ y) (s ++ z))) d.chunks ∙ chunks_front p s y z h.chunks)
  lift_whole false source t t' e h d =
      desk_same source (ap (λ (x : (ℕ × ℕ) × (ℕ × ℕ)). run_of (p ++ y) (s ++ z) x.0) d.desk ∙ e)
      (ap (λ (x : (ℕ × ℕ) × (ℕ × ℕ)). run_of (p ++ y) (s ++ z) x.1) d.desk ∙ run_front p s y z _ h.desk.outro)
      (ap (map (chunk_of (p ++ y) (s ++ z))) d.chunks ∙ chunks_front p s y z h.chunks)

  whole_in : (outro : Bool) (t t' : List ℕ) → RunIn (p ++ y) (s ++ z) run → Readable t p s → DeskSet t t' (runs_of (with_side outro run (row_at t 0))) → Readable t' (p ++ y) (s ++ z)
  whole_in true t t' e h d =
      record {
        linked = d.linked;
        desk =
            record {
              intro = subst (RunIn (p ++ y) (s ++ z)) (sym (ap (λ (x : (ℕ × ℕ) × (ℕ × ℕ)). x.0) d.desk)) (run_in_front p s y z _ h.desk.intro);
              outro = subst (RunIn (p ++ y) (s ++ z)) (sym (ap (λ (x : (ℕ × ℕ) × (ℕ × ℕ)). x.1) d.desk)) e;
            };
        chunks = subst (All (EntryIn (p ++ y) (s ++ z))) (sym d.chunks) (entries_front p s y z h.chunks);
      }
  whole_in false t t' e h d =
      record {
        linked = d.linked;
        desk =
            record {
              intro = subst (RunIn (p ++ y) (s ++ z)) (sym (ap (λ (x : (ℕ × ℕ) × (ℕ × ℕ)). x.0) d.desk)) e;
              outro = subst (RunIn (p ++ y) (s ++ z)) (sym (ap (λ (x : (ℕ × ℕ) × (ℕ × ℕ)). x.1) d.desk)) (run_in_front p s y z _ h.desk.outro);
            };
        chunks = subst (All (EntryIn (p ++ y) (s ++ z))) (sym d.chunks) (entries_front p s y z h.chunks);
      }

-- a piece in a chunk of the list
module _ (outro front : Bool) (text p s y z t t' : List ℕ) (i : ℕ) (run : Place) (us bs : List ℕ) (o : order t ≡ us ++ i ∷ bs) (h : Readable t p s)
    (pt : Put t t' i (with_side outro run (row_at t i))) (len : length t' ≡ length t)
    (tx : run_of (p ++ y) (s ++ z) run ≡ push front text (run_of p s (side outro (entry_at t i)))) (ri : RunIn (p ++ y) (s ++ z) run) where
  abbrev e' : Entry
  e' = entry_of (with_side outro run (row_at t i))

  set : RowSet t t' i e'
  set = row_set t t' i (with_side outro run (row_at t i)) h.linked (record { us = us; bs = bs; place = o }) pt refl refl len

  list : entries t' ≡ map (entry_at t) us ++ e' ∷ map (entry_at t) bs
  list = set.place us bs o

  old : All (EntryIn p s) (map (entry_at t) us ++ entry_at t i ∷ map (entry_at t) bs)
  old = subst (All (EntryIn p s)) (entries_at t us i bs o) h.chunks

  mid : All (EntryIn p s) (entry_at t i ∷ map (entry_at t) bs)
  mid = all_back (EntryIn p s) (map (entry_at t) us) (entry_at t i ∷ map (entry_at t) bs) old

  front_in : All (EntryIn p s) (map (entry_at t) us)
  front_in = all_front (EntryIn p s) (map (entry_at t) us) (entry_at t i ∷ map (entry_at t) bs) old

  same_count : count_of t' ≡ count_of t + 0
  same_count = omega (arith, set.count)

  piece_readable : Readable t' (p ++ y) (s ++ z)
  piece_readable =
      record {
        linked = set.linked;
        desk =
            record {
              intro = subst (RunIn (p ++ y) (s ++ z)) (sym (ap (λ (x : (ℕ × ℕ) × (ℕ × ℕ)). x.0) set.desk)) (run_in_front p s y z _ h.desk.intro);
              outro = subst (RunIn (p ++ y) (s ++ z)) (sym (ap (λ (x : (ℕ × ℕ) × (ℕ × ℕ)). x.1) set.desk)) (run_in_front p s y z _ h.desk.outro);
            };
        chunks =
            subst (All (EntryIn (p ++ y) (s ++ z))) (sym list)
            (all_append (entries_front p s y z front_in)
            (cons (piece_in p s y z front text run outro (row_at t i) ri (first_of mid)) (entries_front p s y z (rest_of mid))));
      }

  piece_desk : (source : List ℕ) → magic_string_of source t' (p ++ y) (s ++ z)
      ≡ with_chunks (magic_string_of source t p s) (map (chunk_of p s) (map (entry_at t) us) ++ with_texts (push_to outro front text) (chunk_of p s (entry_at t i)) ∷ map (chunk_of p s) (map (entry_at t) bs))
  unfolding magic_string_of
  piece_desk source =
      desk_same source (ap (λ (x : (ℕ × ℕ) × (ℕ × ℕ)). run_of (p ++ y) (s ++ z) x.0) set.desk ∙ run_front p s y z _ h.desk.intro)
      (ap (λ (x : (ℕ × ℕ) × (ℕ × ℕ)). run_of (p ++ y) (s ++ z) x.1) set.desk ∙ run_front p s y z _ h.desk.outro)
      (ap (map (chunk_of (p ++ y) (s ++ z))) list
      ∙ map-append (chunk_of (p ++ y) (s ++ z)) (map (entry_at t) us) (e' ∷ map (entry_at t) bs)
      ∙ same_around (chunks_front p s y z front_in) (lift_piece p s y z front text run outro (row_at t i) tx (first_of mid)) (chunks_front p s y z (rest_of mid)))

-- ── the two ends of the search ──
pub inserted_found : (left front : Bool) (q : ℕ) (text p s t t' p' s' : List ℕ) (i : ℕ) → Readable t p s → First (meets (key_of left) q) t i
    → PieceAdded left front text p s t t' p' s' i → length t' ≡ length t → (source : List ℕ) → Did (insert_step q text left front) source t p s t' p' s' 0 0
inserted_found left front q text p s t t' p' s' i h w d len source =
    let l = d.longer in
    let y = l.behind in
    let z = l.after in
    let tx = rw (l.pieces, l.store) at l.texts in
    let ri = rw (l.pieces, l.store) at l.run_in in
    let m = magic_string_of source t p s in
    let ch : m.chunks ≡ map (chunk_of p s) (map (entry_at t) w.us) ++ chunk_of p s (entry_at t i) ∷ map (chunk_of p s) (map (entry_at t) w.bs) =
    chunks_of source t p s ∙ ap (map (chunk_of p s)) (entries_at t w.us i w.bs w.place) ∙ map-append (chunk_of p s) (map (entry_at t) w.us) (entry_at t i ∷ map (entry_at t) w.bs) in
    rw (l.pieces, l.store)
    (record {
      readable = piece_readable left front text p s y z t t' i d.run w.us w.bs w.place h d.put len tx ri;
      result =
          step_found left front q text m _ (chunk_of p s (entry_at t i)) _ ch (none_keyed left p s q t w.us w.none) (here_keyed left p s q (entry_at t i) w.here)
          ∙ ap ok (sym (piece_desk left front text p s y z t t' i d.run w.us w.bs w.place h d.put len tx ri source));
      cuts = same_count left front text p s y z t t' i d.run w.us w.bs w.place h d.put len tx ri;
    })

pub whole_added : (outro front : Bool) (text p s t t' p' s' : List ℕ) → Readable t p s → PieceAdded outro front text p s t t' p' s' 0 → length t' ≡ length t
    → (source : List ℕ) → Did (λ m. ok (whole_add outro front text m)) source t p s t' p' s' 0 0
whole_added outro front text p s t t' p' s' h d len source =
    let l = d.longer in
    let y = l.behind in
    let z = l.after in
    let tx = rw (l.pieces, l.store) at l.texts in
    let ri = rw (l.pieces, l.store) at l.run_in in
    let k = desk_set t t' (with_side outro d.run (row_at t 0)) h.linked d.put refl refl refl len in
    rw (l.pieces, l.store)
    (record {
      readable = whole_in p s y z front text d.run outro t t' ri h k;
      result = ap ok (sym (lift_whole p s y z front text d.run outro source t t' tx h k));
      cuts = omega (arith, k.count);
    })

pub inserted_whole : (left front : Bool) (q : ℕ) (text p s t t' p' s' : List ℕ) → Readable t p s → Each (λ x. meets (key_of left) q (entry_at t x) ≡ false) (order t)
    → PieceAdded (not left) front text p s t t' p' s' 0 → length t' ≡ length t → (source : List ℕ) → Did (insert_step q text left front) source t p s t' p' s' 0 0
inserted_whole left front q text p s t t' p' s' h n d len source =
    let g = whole_added (not left) front text p s t t' p' s' h d len source in
    let m = magic_string_of source t p s in
    record {
      readable = g.readable;
      result =
          step_whole left front q text m (subst (All (λ c. keyed left q c ≡ false)) (sym (chunks_of source t p s)) (none_keyed left p s q t (order t) n))
          ∙ ap (λ (b : Bool). ok (with_whole b m (push front text))) (sym (not_not left)) ∙ g.result;
      cuts = g.cuts;
    }

-- ── the run of the row that was found, and of row 0 ──
side_small : (outro : Bool) {p s : List ℕ} (e : Entry) → EntrySmall p s e → RunSmall p s (side outro e)
side_small true e h = h.outro
side_small false e h = h.intro

pub whole_run : (outro : Bool) (t p s : List ℕ) → Readable t p s → DeskSmall t p s → RunIn p s (side outro (entry_at t 0)) × RunSmall p s (side outro (entry_at t 0))
whole_run outro t p s h k = (side_in outro (entry_at t 0) h.desk, side_small outro (entry_at t 0) k.desk)

module _ (f : Entry → Bool) (t p s : List ℕ) (i : ℕ) (w : First f t i) where
  pub found_run : (outro : Bool) → Readable t p s → DeskSmall t p s → RunIn p s (side outro (entry_at t i)) × RunSmall p s (side outro (entry_at t i))
  found_run outro h k =
      let e = entries_at t w.us i w.bs w.place in (
        side_in outro (entry_at t i) (first_of (all_back (EntryIn p s) (map (entry_at t) w.us) (entry_at t i ∷ map (entry_at t) w.bs) (subst (All (EntryIn p s)) e h.chunks))).runs,
        side_small outro (entry_at t i) (first_of (all_back (EntrySmall p s) (map (entry_at t) w.us) (entry_at t i ∷ map (entry_at t) w.bs) (subst (All (EntrySmall p s)) e k.chunks))),
      )

  pub found_row : Linked t → i * ROW + ROW ≤ length t
  found_row l = omega (arith, l.room, (inside_at t w.us i w.bs l w.place).1)

-- ── the row that the piece goes to ──
module _ (text p s t t' p' s' : List ℕ) (front : Bool) (h : Readable t p s) (len : length t' ≡ length t) where
  in_row_0 : {i : ℕ} {outro o : Bool} → i ≡ 0 → outro ≡ o → PieceAdded outro front text p s t t' p' s' i → PieceAdded o front text p s t t' p' s' 0
  in_row_0 {i} {outro} {o} e k d =
      subst (λ (b : Bool). PieceAdded b front text p s t t' p' s' 0) k (subst (λ (j : ℕ). PieceAdded outro front text p s t t' p' s' j) e d)

  pub inserted_for : (spot : Spot) {i : ℕ} {outro : Bool} → RowFor spot t i outro → PieceAdded outro front text p s t t' p' s' i
      → (source : List ℕ) → Did (piece_step spot front text) source t p s t' p' s' 0 0
  inserted_for (At q left) {i} (inl w) d = inserted_found left front q text p s t t' p' s' i h w.0 (subst (λ (b : Bool). PieceAdded b front text p s t t' p' s' i) w.1 d) len
  inserted_for (At q left) (inr w) d = inserted_whole left front q text p s t t' p' s' h w.0 (in_row_0 w.1 w.2 d) len
  inserted_for (Whole o) w d = whole_added o front text p s t t' p' s' h (in_row_0 w.0 w.1 d) len

pub row_in : (spot : Spot) (t : List ℕ) (i : ℕ) (outro : Bool) → RowFor spot t i outro → Linked t → i * ROW + ROW ≤ length t
row_in (At q left) t i outro (inl w) l = found_row (meets (key_of left) q) t [] [] i w.0 l
row_in (At q left) t i outro (inr w) l = omega (arith, w.1, l.room)
row_in (Whole o) t i outro w l = omega (arith, w.0, l.room)

pub run_for : (spot : Spot) (t p s : List ℕ) (i : ℕ) (outro : Bool) → RowFor spot t i outro → Readable t p s → DeskSmall t p s
    → RunIn p s (side outro (entry_at t i)) × RunSmall p s (side outro (entry_at t i))
run_for (At q left) t p s i outro (inl w) h k = found_run (meets (key_of left) q) t p s i w.0 outro h k
run_for (At q left) t p s i outro (inr w) h k = rw w.1 (whole_run outro t p s h k)
run_for (Whole o) t p s i outro w h k = rw w.0 (whole_run outro t p s h k)
