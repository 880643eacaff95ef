-- Laws of what `Walk` in specs/ defines.
use mathlib.Core.Path.{◌≡◌, refl, sym, ap, ap₂, ◌∙◌, subst}
use mathlib.Core.Bool.{Bool, true, false}
use mathlib.Core.List.{List, [], ◌∷◌, ◌++◌, map, map-append, map-map, reverse, reverse-cons, reverse-append, reverse-reverse, append_assoc, append-nil}
use Prim.Native.Nat.{ℕ, ◌+◌, ◌*◌, ◌≤◌, ◌<◌}
use native.Mathlib.Omega.{arith}
use lib.ListN.{length, length-reverse}
use Rattle.std.specs.Prelude.{Option, Some, None}
use Rattle.memory_layout.specs.Layout.{ROW, TRIM_STORE_LEN}
use Rattle.utf8.specs.Chars.{All}
use Rattle.memory_table.specs.declared.Row.{Row}
use Rattle.memory_table.specs.Ring.{Each, Not, Edge, Links}
use Rattle.memory_table.proofs.Ring.{each_append, each_left, each_right, each_map, length_follow, links_left, links_right}
use Rattle.memory_table.specs.Table.{row_at, Put}
use Rattle.memory_table.specs.Order.{Entry, entry_of, entry_at, entries, order, next_of, prev_of, count_of, Linked}
use Rattle.memory_table.proofs.Order.{put_keep, same_links, inside_at, others}
use Rattle.model.specs.Text.{sum}
use Rattle.model.specs.Chunk.{Chunk}
use Rattle.model.specs.Trim.{Trimmed, trim_chunks}
use Rattle.memory.specs.Layout.{chunk_of}
use Rattle.memory.proofs.Desks.{each_all}
use Rattle.memory_texts.specs.Low.{RowsKept, BytesKept, TextLow, EntryLow}
use Rattle.memory_texts.proofs.Low.{rows_same, bytes_same, entry_same, runs_still, entry_still}
use Rattle.trim_chunk.specs.Sides.{trim_chunk}
use Rattle.trim_chunk.specs.Plain.{plain_of, Behind}
use Rattle.trim_chunk.specs.RunEnds.{RunsTo, RunsBehind}
use Rattle.trim_chunk.proofs.RunEnds.{runs_to, runs_low}
use Rattle.trim_chunk.specs.Row.{clear_of, blank_row, Rewritten, RowReady, RowFits, RowDone, pieces_of}
use Rattle.trim_chunk.proofs.Row.{row_blank, clear_low, clear_spent, clear_fewer}
use Rattle.trim_chunk.proofs.Uses.{Fewer, same_fewer}
use Rattle.trim_chunk.specs.Uses.{RowApart}
use Rattle.trim_chunks.proofs.Apart.{all_apart, one_apart}
use Rattle.trim_chunks.specs.Sums.{way}
use Rattle.trim_chunks.proofs.Sums.{each_sum, but_one, entries_sum}
use Rattle.trim_chunks.specs.Walk.{step_of, head_or, Standing, WalkAt, NextRow, WalkEnd, Walked, ReadyAt, ChunksReady, ChunksTrimmed}

-- ---- lists

pub way_way : {A : Type 0} (front : Bool) (l : List A) → way front (way front l) ≡ l
way_way true l = refl
way_way false l = reverse-reverse l

pub way_length : {A : Type 0} (front : Bool) (l : List A) → length (way front l) ≡ length l
way_length true l = refl
way_length false l = length-reverse l

map_reverse : {A B : Type 0} (f : A → B) (l : List A) → map f (reverse l) ≡ reverse (map f l)
map_reverse f [] = refl
map_reverse {A} {B} f (x ∷ l) = ap (map f) (reverse-cons x l) ∙ map-append f (reverse l) (x ∷ []) ∙ ap (λ (m : List B). m ++ (f x ∷ [])) (map_reverse f l) ∙ sym (reverse-cons (f x) (map f l))

pub map_way : {A B : Type 0} (front : Bool) (f : A → B) (l : List A) → map f (way front l) ≡ way front (map f l)
map_way true f l = refl
map_way false f l = map_reverse f l

each_reverse : (P : ℕ → Type 0) (l : List ℕ) → Each P l → Each P (reverse l)
each_reverse P [] h = tt
each_reverse P (x ∷ l) h = subst (Each P) (sym (reverse-cons x l)) (each_append P (reverse l) (x ∷ []) (each_reverse P l h.1) (h.0, tt))

pub each_way : (front : Bool) (P : ℕ → Type 0) (l : List ℕ) → Each P l → Each P (way front l)
each_way true P l h = h
each_way false P l h = each_reverse P l h

-- ---- where row i stands

next_head : (nx pv : ℕ → ℕ) (i : ℕ) (bs : List ℕ) → Links (Edge nx pv) i bs 0 → nx i ≡ head_or bs
next_head nx pv i [] l = l.fwd
next_head nx pv i (x ∷ bs) l = l.0.fwd

prev_last : (nx pv : ℕ → ℕ) (i : ℕ) (bs : List ℕ) → Links (Edge nx pv) 0 (reverse bs) i → pv i ≡ head_or bs
prev_last nx pv i [] l = l.bwd
prev_last nx pv i (x ∷ bs) l = (links_right (Edge nx pv) 0 (reverse bs) x [] i (subst (λ (m : List ℕ). Links (Edge nx pv) 0 m i) (reverse-cons x bs) l)).bwd

pub first_step : (front : Bool) (t : List ℕ) → Linked t → step_of front (row_at t 0) ≡ head_or (way front (order t))
unfolding order
first_step true t l = next_head (next_of t) (prev_of t) 0 (order t) l.ring.links
first_step false t l = prev_last (next_of t) (prev_of t) 0 (reverse (order t)) (subst (λ (m : List ℕ). Links (Edge (next_of t) (prev_of t)) 0 m 0) (sym (reverse-reverse (order t))) l.ring.links)

turned : (l us : List ℕ) (i : ℕ) (bs : List ℕ) → reverse l ≡ us ++ i ∷ bs → l ≡ reverse bs ++ i ∷ reverse us
turned l us i bs e =
    sym (reverse-reverse l) ∙ ap reverse e ∙ reverse-append us (i ∷ bs) ∙ ap (λ (m : List ℕ). m ++ reverse us) (reverse-cons i bs) ∙ append_assoc (reverse bs) (i ∷ []) (reverse us)

pub standing : (front : Bool) (t us : List ℕ) (i : ℕ) (bs : List ℕ) → Linked t → way front (order t) ≡ us ++ i ∷ bs → Standing front t us i bs
unfolding order
standing true t us i bs l e =
    let o = others t us i bs l e in
    let k = inside_at t us i bs l e in
    record {
      apart_before = o.0;
      apart_behind = o.1;
      positive = k.0;
      most = k.1;
      step = next_head (next_of t) (prev_of t) i bs (links_right (Edge (next_of t) (prev_of t)) 0 us i bs 0 (subst (λ (m : List ℕ). Links (Edge (next_of t) (prev_of t)) 0 m 0) e l.ring.links));
    }
standing false t us i bs l e =
    let q = turned (order t) us i bs e in
    let o = others t (reverse bs) i (reverse us) l q in
    let k = inside_at t (reverse bs) i (reverse us) l q in
    record {
      apart_before = subst (Each (Not i)) (reverse-reverse us) (each_reverse (Not i) (reverse us) o.1);
      apart_behind = subst (Each (Not i)) (reverse-reverse bs) (each_reverse (Not i) (reverse bs) o.0);
      positive = k.0;
      most = k.1;
      step = prev_last (next_of t) (prev_of t) i bs (links_left (Edge (next_of t) (prev_of t)) 0 (reverse bs) i (reverse us) 0
          (subst (λ (m : List ℕ). Links (Edge (next_of t) (prev_of t)) 0 m 0) q l.ring.links));
    }

-- ---- the walk: us are cleared, rest is as it was

every : (P : ℕ → Type 0) → ((x : ℕ) → P x) → (l : List ℕ) → Each P l
every P f [] = tt
every P f (x ∷ l) = (f x, every P f l)

pub walk_none : (front : Bool) (pattern : ℕ) (source p s t : List ℕ) (n cur : ℕ) → Linked t → n ≡ count_of t → cur ≡ step_of front (row_at t 0) → WalkAt front pattern source p s t t n 0 cur
unfolding order
walk_none front pattern source p s t n cur l e c =
    record {
      us = [];
      rest = way front (order t);
      place = refl;
      size = omega (arith, way_length front (order t), length_follow (next_of t) (count_of t) (next_of t 0));
      here = c ∙ first_step front t l;
      blanks = tt;
      done = tt;
      todo = every (λ x. row_at t x ≡ row_at t x) (λ x. refl) (way front (order t));
      desk = refl;
      next = λ x. refl;
      prev = λ x. refl;
      len = refl;
    }

module _ (front : Bool) (pattern : ℕ) (source p s t₀ t : List ℕ) (n k cur : ℕ) (l : Linked t₀) (w : WalkAt front pattern source p s t₀ t n k cur) where
  pub next_row : k < n → NextRow front t₀ t w.us w.rest cur
  next_row g = go w.rest refl
    where
      go : (r : List ℕ) → w.rest ≡ r → NextRow front t₀ t w.us w.rest cur
      go [] e = absurd (omega (arith, ap length e, w.size))
      go (i ∷ bs) e =
          let c : cur ≡ i = w.here ∙ ap head_or e in
          let q : w.rest ≡ cur ∷ bs = e ∙ ap (λ (x : ℕ). x ∷ bs) (sym c) in
          let d = subst (Each (λ x. row_at t x ≡ row_at t₀ x)) q w.todo in
          record { bs = bs; rest_is = q; stands = standing front t₀ w.us cur bs l (w.place ∙ ap (λ (m : List ℕ). w.us ++ m) q); row_is = d.0; later = d.1 }

  module _ (g : k < n) (t' : List ℕ) (r q : Row) (er : r ≡ row_at t cur) (b : blank_row pattern source p s (entry_of r) ≡ true) (c : Rewritten r q (clear_of (entry_of r))) (u : Put t t' cur q)
      (m : length t' ≡ length t) where
    x : NextRow front t₀ t w.us w.rest cur
    x = next_row g

    e : r ≡ row_at t₀ cur
    e = er ∙ x.row_is

    off : (P : ℕ → List ℕ → Type 0) → ((a : ℕ) → Not cur a → P a t → P a t') → (xs : List ℕ) → Each (Not cur) xs → Each (λ a. P a t) xs → Each (λ a. P a t') xs
    off P f [] a h = tt
    off P f (y ∷ ys) a h = (f y a.0 h.0, off P f ys a.1 h.1)

    pub walk_more : WalkAt front pattern source p s t₀ t' n (k + 1) (step_of front r)
    walk_more =
        let v = x.stands in
        let bs = x.bs in
        let us = w.us in
        record {
          us = us ++ (cur ∷ []);
          rest = bs;
          place = w.place ∙ ap (λ (z : List ℕ). us ++ z) x.rest_is ∙ sym (append_assoc us (cur ∷ []) bs);
          size = omega (arith, w.size, ap length x.rest_is);
          here = ap (step_of front) e ∙ v.step;
          blanks = each_append (λ a. blank_row pattern source p s (entry_at t₀ a) ≡ true) us (cur ∷ []) w.blanks (ap (λ (z : Row). blank_row pattern source p s (entry_of z)) (sym e) ∙ b, tt);
          done =
              each_append (λ a. entry_at t' a ≡ clear_of (entry_at t₀ a)) us (cur ∷ [])
              (off (λ a z. entry_at z a ≡ clear_of (entry_at t₀ a)) (λ a y h. ap entry_of (u.off a y) ∙ h) us v.apart_before w.done) (
                ap entry_of u.at ∙ c.entry_is ∙ ap (λ (z : Row). clear_of (entry_of z)) e,
                tt,
              );
          todo = off (λ a z. row_at z a ≡ row_at t₀ a) (λ a y h. u.off a y ∙ h) bs v.apart_behind x.later;
          desk = u.off 0 (λ z. omega (arith, v.positive)) ∙ w.desk;
          next = λ a. put_keep (λ (z : Row). z.next) t t' cur q u (c.next ∙ ap (λ (z : Row). z.next) er) a ∙ w.next a;
          prev = λ a. put_keep (λ (z : Row). z.prev) t t' cur q u (c.prev ∙ ap (λ (z : Row). z.prev) er) a ∙ w.prev a;
          len = m ∙ w.len;
        }

-- ---- where the walk ends: a row stops it, or every chunk is blank

module _ (front : Bool) (pattern : ℕ) (source p s t₀ t : List ℕ) (n k cur : ℕ) (l : Linked t₀) (w : WalkAt front pattern source p s t₀ t n k cur) where
  pub walk_end : n ≤ k → Walked front pattern source p s t₀ t None
  walk_end h = record { n = n; k = k; cur = cur; at = w; ends = none w.rest (omega (arith, w.size)) }
    where
      none : (m : List ℕ) → length m ≤ 0 → m ≡ []
      none [] g = refl
      none (x ∷ m) g = absurd (omega arith)

  pub walk_stop : k < n → (r : Row) → r ≡ row_at t cur → blank_row pattern source p s (entry_of r) ≡ false → Walked front pattern source p s t₀ t (Some cur)
  walk_stop g r e b =
      let x = next_row front pattern source p s t₀ t n k cur l w g in
      record {
        n = n;
        k = k;
        cur = cur;
        at = w;
        ends = (x, ap (λ (z : Row). blank_row pattern source p s (entry_of z)) (sym (e ∙ x.row_is)) ∙ b);
      }

-- ---- the chunks, trimmed

module _ (f : Chunk → Trimmed) (G H : ℕ → Chunk) where
  Goes : ℕ → Type 0
  Goes x = f (G x) ≡ record { goes_on = true; chunk = H x }

  trim_all : (us : List ℕ) → Each Goes us → trim_chunks f (map G us) ≡ map H us
  unfolding Goes
  trim_all [] h = refl
  trim_all (x ∷ us) h = rw h.0 (ap (λ (l : List Chunk). H x ∷ l) (trim_all us h.1))

  same_rest : (bs : List ℕ) → Each (λ x. H x ≡ G x) bs → map G bs ≡ map H bs
  same_rest [] h = refl
  same_rest (x ∷ bs) h = ap₂ (λ (c : Chunk) (l : List Chunk). c ∷ l) (sym h.0) (same_rest bs h.1)

  trim_to : (us : List ℕ) (i : ℕ) (bs : List ℕ) → Each Goes us → f (G i) ≡ record { goes_on = false; chunk = H i } → Each (λ x. H x ≡ G x) bs
      → trim_chunks f (map G (us ++ i ∷ bs)) ≡ map H (us ++ i ∷ bs)
  unfolding Goes
  trim_to [] i bs h k b = rw k (ap (λ (l : List Chunk). H i ∷ l) (same_rest bs b))
  trim_to (x ∷ us) i bs h k b = rw h.0 (ap (λ (l : List Chunk). H x ∷ l) (trim_to us i bs h.1 k b))

-- the chunks of a table, in the direction of the trim
chunks_way : (front : Bool) (p s t : List ℕ) → map (λ x. chunk_of p s (entry_at t x)) (way front (order t)) ≡ way front (map (chunk_of p s) (entries t))
chunks_way front p s t = map_way front (λ x. chunk_of p s (entry_at t x)) (order t) ∙ ap (way front) (sym (map-map (chunk_of p s) (entry_at t) (order t)))

module _ (front : Bool) (pattern : ℕ) (source p s : List ℕ) (top wide byte : ℕ) (t : List ℕ) (ready : ChunksReady source p s top wide byte t) (t1 : List ℕ)
    (found : Option ℕ) (w : Walked front pattern source p s t t1 found) where
  abbrev us : List ℕ
  us = w.at.us

  ready_way : Each (ReadyAt source p s top wide byte t) (us ++ w.at.rest)
  ready_way = subst (Each (ReadyAt source p s top wide byte t)) w.at.place (each_way front (ReadyAt source p s top wide byte t) (order t) ready.each)

  ready_us : Each (ReadyAt source p s top wide byte t) us
  ready_us = each_left (ReadyAt source p s top wide byte t) us w.at.rest ready_way

  low_each : (xs : List ℕ) → Each (ReadyAt source p s top wide byte t) xs → Each (λ x. EntryLow p top byte (entry_at t x)) xs
  low_each = each_map (ReadyAt source p s top wide byte t) (λ x. EntryLow p top byte (entry_at t x)) (λ x h. h.1.0.low)

  same_order : (t' : List ℕ) → ((x : ℕ) → next_of t' x ≡ next_of t1 x) → ((x : ℕ) → prev_of t' x ≡ prev_of t1 x) → row_at t' 0 ≡ row_at t1 0 → length t' ≡ length t1 → (order t' ≡ order t) × Linked t'
  same_order t' nx pv d m =
      same_links t t' (λ x. nx x ∙ w.at.next x) (λ x. pv x ∙ w.at.prev x) (ap (λ (r : Row). r.start) (d ∙ w.at.desk)) (m ∙ w.at.len) ready.linked

  -- what is the same for the cleared rows whether a row stops the walk or not
  module _ (t' p' s' : List ℕ) (kp : RowsKept top p p') (ks : BytesKept byte s s') (row : ℕ) (kr : top ≤ row) (b : ℕ) (kb : byte ≤ b) where
    Clear : ℕ → Type 0
    Clear x = entry_at t' x ≡ clear_of (entry_at t x)

    GoesOn : ℕ → Type 0
    GoesOn x = trim_chunk front pattern source (chunk_of p s (entry_at t x)) ≡ record { goes_on = true; chunk = chunk_of p' s' (entry_at t' x) }

    cleared : (xs : List ℕ) → Each (ReadyAt source p s top wide byte t) xs → Each (λ x. blank_row pattern source p s (entry_at t x) ≡ true) xs → Each Clear xs → Each GoesOn xs
    unfolding Clear GoesOn
    cleared [] r g c = tt
    cleared (x ∷ xs) r g c = (
      row_blank front pattern source p s (entry_at t x) r.0.0 g.0
          ∙ ap (λ (z : Chunk). record { goes_on = true; chunk = z })
          (sym (ap (chunk_of p' s') c.0 ∙ entry_same top byte p s p' s' kp ks (clear_of (entry_at t x))
          (clear_low p top byte (entry_at t x) r.0.1.0.low))),
      cleared xs r.1 g.1 c.1,
    )

    Low : ℕ → Type 0
    Low x = EntryLow p' row b (entry_at t' x)

    cleared_low : (xs : List ℕ) → Each (ReadyAt source p s top wide byte t) xs → Each Clear xs → Each Low xs
    unfolding Clear Low
    cleared_low [] r c = tt
    cleared_low (x ∷ xs) r c = (
      subst (EntryLow p' row b) (sym c.0)
          (entry_still top byte p p' kp row b kr kb (clear_of (entry_at t x)) (clear_low p top byte (entry_at t x) r.0.1.0.low)),
      cleared_low xs r.1 c.1,
    )

    Spent : ℕ → Type 0
    Spent x = plain_of (entry_at t' x) ≤ plain_of (entry_at t x)

    cleared_spent : (xs : List ℕ) → Each Clear xs → Each Spent xs
    unfolding Clear Spent
    cleared_spent [] c = tt
    cleared_spent (x ∷ xs) c = (omega (arith, ap plain_of c.0, clear_spent (entry_at t x)), cleared_spent xs c.1)

    cleared_fewer : (xs : List ℕ) → Each Clear xs → Each (λ x. Fewer p p' (entry_at t x) (entry_at t' x)) xs
    unfolding Clear
    cleared_fewer [] c = tt
    cleared_fewer (x ∷ xs) c = (subst (Fewer p p' (entry_at t x)) (sym c.0) (clear_fewer p p' (entry_at t x)), cleared_fewer xs c.1)

    Same : ℕ → Type 0
    Same x = entry_at t' x ≡ entry_at t x

    stays : (xs : List ℕ) → Each (ReadyAt source p s top wide byte t) xs → Each Same xs → Each (λ x. chunk_of p' s' (entry_at t' x) ≡ chunk_of p s (entry_at t x)) xs
    unfolding Same
    stays [] r c = tt
    stays (x ∷ xs) r c = (ap (chunk_of p' s') c.0 ∙ entry_same top byte p s p' s' kp ks (entry_at t x) r.0.1.0.low, stays xs r.1 c.1)

    stays_low : (xs : List ℕ) → Each (ReadyAt source p s top wide byte t) xs → Each Same xs → Each Low xs
    unfolding Same Low
    stays_low [] r c = tt
    stays_low (x ∷ xs) r c = (
      subst (EntryLow p' row b) (sym c.0)
          (entry_still top byte p p' kp row b kr kb (entry_at t x) r.0.1.0.low),
      stays_low xs r.1 c.1,
    )

    stays_spent : (xs : List ℕ) → Each Same xs → Each Spent xs
    unfolding Same Spent
    stays_spent [] c = tt
    stays_spent (x ∷ xs) c = (omega (arith, ap plain_of c.0), stays_spent xs c.1)

    stays_fewer : (xs : List ℕ) → Each (ReadyAt source p s top wide byte t) xs → Each Same xs → Each (λ x. Fewer p p' (entry_at t x) (entry_at t' x)) xs
    unfolding Same
    stays_fewer [] r c = tt
    stays_fewer (x ∷ xs) r c = (subst (Fewer p p' (entry_at t x)) (sym c.0) (same_fewer p p' top byte (entry_at t x) kp r.0.1.0.low.runs), stays_fewer xs r.1 c.1)

    -- from the rows in the direction of the trim to the table
    together : order t' ≡ order t → Each Low (way front (order t)) → trim_chunks (trim_chunk front pattern source)
        (map (λ x. chunk_of p s (entry_at t x)) (way front (order t))) ≡ map (λ x. chunk_of p' s' (entry_at t' x)) (way front (order t))
        → All (EntryLow p' row b) (entries t') × (map (chunk_of p' s') (entries t') ≡ way front (trim_chunks (trim_chunk front pattern source) (way front (map (chunk_of p s) (entries t)))))
    unfolding Low
    together o h e = (
      each_all (entry_at t') (order t') (subst (Each Low) (sym o) (subst (Each Low) (way_way front (order t)) (each_way front Low (way front (order t)) h))),
      sym (way_way front (map (chunk_of p' s') (entries t')))
          ∙ ap (way front) (sym (chunks_way front p' s' t') ∙ ap (λ (m : List ℕ). map (λ x. chunk_of p' s' (entry_at t' x)) (way front m)) o ∙ sym e
          ∙ ap (trim_chunks (trim_chunk front pattern source)) (chunks_way front p s t)),
    )

  -- a sum over the rows of the two tables
  sums : (t' : List ℕ) → order t' ≡ order t → (f : Entry → ℕ) → (sum f (entries t) ≡ sum (λ x. f (entry_at t x)) (way front (order t))) ×
      (sum f (entries t') ≡ sum (λ x. f (entry_at t' x)) (way front (order t)))
  sums t' o f = (entries_sum front f t, entries_sum front f t' ∙ ap (λ (m : List ℕ). sum (λ x. f (entry_at t' x)) (way front m)) o)

  -- every chunk is blank
  pub all_blank : found ≡ None → ChunksTrimmed front pattern source p s top wide byte t p s t1 top byte
  unfolding Clear GoesOn Low Goes Spent
  all_blank z =
      let kp = rows_same top p in
      let ks = bytes_same byte s in
      let kr : top ≤ top = omega arith in
      let kb : byte ≤ byte = omega arith in
      let q : way front (order t) ≡ us = w.at.place ∙ ap (λ (m : List ℕ). us ++ m) (subst (WalkEnd front pattern source p s t t1 us w.at.rest) z w.ends) ∙ append-nil us in
      let o = same_order t1 (λ x. refl) (λ x. refl) refl refl in
      let g = cleared t1 p s kp ks top kr byte kb us ready_us w.at.blanks w.at.done in
      let x = together t1 p s kp ks top kr byte kb o.0 (rw q (cleared_low t1 p s kp ks top kr byte kb us ready_us w.at.done))
      (rw q (trim_all (trim_chunk front pattern source) (λ x. chunk_of p s (entry_at t x)) (λ x. chunk_of p s (entry_at t1 x)) us g)) in
      let e = sums t1 o.0 plain_of in
      let c = each_sum (λ x. plain_of (entry_at t1 x)) (λ x. plain_of (entry_at t x)) (way front (order t)) (rw q (cleared_spent t1 p s kp ks top kr byte kb us w.at.done)) in
      record {
        linked = o.1;
        place = o.0;
        desk = w.at.desk;
        len = w.at.len;
        rows = kp;
        bytes = ks;
        first = kr;
        most = omega arith;
        least = kb;
        low = x.0;
        spent = omega (arith, e.0, e.1, c);
        apart = all_apart front p p top byte t t1 o.0 us q (low_each us ready_us) (cleared_fewer t1 p s kp ks top kr byte kb us w.at.done);
        chunks = x.1;
      }

  -- row i stops the walk
  module _ (i : ℕ) (is : found ≡ Some i) where
    stop : NextRow front t t1 us w.at.rest i
    stop = (subst (WalkEnd front pattern source p s t t1 us w.at.rest) is w.ends).0

    ready_rest : Each (ReadyAt source p s top wide byte t) (i ∷ stop.bs)
    ready_rest = subst (Each (ReadyAt source p s top wide byte t)) stop.rest_is (each_right (ReadyAt source p s top wide byte t) us w.at.rest ready_way)

    pub stop_row : i * ROW + ROW ≤ length t1
    stop_row = omega (arith, stop.stands.most, ready.linked.room, w.at.len)

    module _ (r : Row) (er : r ≡ row_at t1 i) where
      row_was : r ≡ row_at t i
      row_was = er ∙ stop.row_is

      pub stop_ready : RowReady source p s (entry_of r) × (RowFits p s top byte (entry_of r) × (blank_row pattern source p s (entry_of r) ≡ false))
      stop_ready =
          subst (λ (y : Row). RowReady source p s (entry_of y) × (RowFits p s top byte (entry_of y) × (blank_row pattern source p s (entry_of y) ≡ false))) (sym row_was)
          (ready_rest.0.0, (ready_rest.0.1.0, (subst (WalkEnd front pattern source p s t t1 us w.at.rest) is w.ends).1))

      module _ (p' s' : List ℕ) (q : Row) (d : RowDone front pattern source p s r top byte p' s' q) where
        -- what is asked for the row and the byte behind it
        pub ends_short : RunsTo 4294967295 (entry_of q) × TextLow TRIM_STORE_LEN (entry_of q).text
        ends_short =
            let f = stop_ready.1.0 in (
              runs_to p' byte (top + pieces_of (entry_of r)) (entry_of q) d.trimmed.runs 4294967295 (omega (arith, f.rows, f.narrow)),
              λ n. omega (arith, d.trimmed.text n, f.bytes, f.small),
            )

        module _ (t2 : List ℕ) (u : Put t1 t2 i q) (m : length t2 ≡ length t1) (row b : ℕ) (ends : RunsBehind top (entry_of q) row × Behind byte (entry_of q).text b) where
          keep_off : (P Q : ℕ → Type 0) → ((a : ℕ) → Not i a → P a → Q a) → (xs : List ℕ) → Each (Not i) xs → Each P xs → Each Q xs
          keep_off P Q f [] a h = tt
          keep_off P Q f (y ∷ ys) a h = (f y a.0 h.0, keep_off P Q f ys a.1 h.1)

          v : Behind byte (entry_of q).text b
          v = ends.1

          stop_low : EntryLow p' row b (entry_of q)
          stop_low =
              record {
                runs =
                    runs_still row byte p' p' (rows_same row p') row b (omega arith) v.least (entry_of q)
                    (runs_low p' byte (top + pieces_of (entry_of r)) (entry_of q) d.trimmed.runs row ends.0.runs);
                text = v.text;
              }

          -- no more rows than the pieces of the row
          row_most : row ≤ top + wide
          row_most =
              let n = pieces_of (entry_of r) in
              let a = ends.0.most (top + n) (omega arith) (runs_to p' byte (top + n) (entry_of q) d.trimmed.runs (top + n) (omega arith)) in
              omega (arith, a, ap (λ (y : Row). pieces_of (entry_of y)) row_was, ready_rest.0.1.1)

          pub one_stops : ChunksTrimmed front pattern source p s top wide byte t p' s' t2 row b
          unfolding Clear GoesOn Low Goes Same Spent
          one_stops =
              let kp = d.trimmed.rows in
              let ks = d.trimmed.bytes in
              let kr = ends.0.least in
              let kb = v.least in
              let bs = stop.bs in
              let W : way front (order t) ≡ us ++ i ∷ bs = w.at.place ∙ ap (λ (l : List ℕ). us ++ l) stop.rest_is in
              let z : row_at t2 0 ≡ row_at t1 0 = u.off 0 (λ y. omega (arith, stop.stands.positive)) in
              let o = same_order t2 (put_keep (λ (y : Row). y.next) t1 t2 i q u (d.next ∙ ap (λ (y : Row). y.next) er))
              (put_keep (λ (y : Row). y.prev) t1 t2 i q u (d.prev ∙ ap (λ (y : Row). y.prev) er)) z m in
              let c = keep_off (λ a. entry_at t1 a ≡ clear_of (entry_at t a)) (λ a. entry_at t2 a ≡ clear_of (entry_at t a)) (λ a y h. ap entry_of (u.off a y) ∙ h) us
              stop.stands.apart_before w.at.done in
              let k = keep_off (λ a. row_at t1 a ≡ row_at t a) (λ a. entry_at t2 a ≡ entry_at t a) (λ a y h. ap entry_of (u.off a y ∙ h)) bs stop.stands.apart_behind stop.later in
              let n : entry_at t2 i ≡ entry_of q = ap entry_of u.at in
              let g = cleared t2 p' s' kp ks row kr b kb us ready_us w.at.blanks c in
              let l = stays t2 p' s' kp ks row kr b kb bs ready_rest.1 k in
              let j : trim_chunk front pattern source (chunk_of p s (entry_at t i)) ≡ record { goes_on = false; chunk = chunk_of p' s' (entry_at t2 i) } =
              ap (λ (y : Row). trim_chunk front pattern source (chunk_of p s (entry_of y))) (sym row_was) ∙ d.trimmed.chunk
              ∙ ap (λ (y : Entry). record { goes_on = false; chunk = chunk_of p' s' y }) (sym n) in
              let y = together t2 p' s' kp ks row kr b kb o.0
              (rw W (each_append (Low t2 p' s' kp ks row kr b kb) us (i ∷ bs) (cleared_low t2 p' s' kp ks row kr b kb us ready_us c)
              (subst (EntryLow p' row b) (sym n) stop_low, stays_low t2 p' s' kp ks row kr b kb bs ready_rest.1 k)))
              (rw W (trim_to (trim_chunk front pattern source) (λ a. chunk_of p s (entry_at t a)) (λ a. chunk_of p' s' (entry_at t2 a)) us i bs g j l)) in
              let e = sums t2 o.0 plain_of in
              let spent-i : b + plain_of (entry_at t2 i) ≤ byte + plain_of (entry_at t i) = omega (arith, d.trimmed.spent b v, ap plain_of n, ap (λ (y : Row). plain_of (entry_of y)) row_was) in
              let x : b + sum (λ a. plain_of (entry_at t2 a)) (way front (order t)) ≤ byte + sum (λ a. plain_of (entry_at t a)) (way front (order t)) =
              rw W (but_one (λ a. plain_of (entry_at t2 a)) (λ a. plain_of (entry_at t a)) b byte us i bs (cleared_spent t2 p' s' kp ks row kr b kb us c) spent-i
              (stays_spent t2 p' s' kp ks row kr b kb bs k)) in
              record {
                linked = o.1;
                place = o.0;
                desk = z ∙ w.at.desk;
                len = m ∙ w.at.len;
                rows = kp;
                bytes = ks;
                first = kr;
                most = row_most;
                least = kb;
                low = y.0;
                spent = omega (arith, e.0, e.1, x);
                apart =
                    one_apart front p p' top byte t t2 o.0 us i bs W (subst (λ (l : List ℕ). Each (λ a. EntryLow p top byte (entry_at t a)) (us ++ l))
                    stop.rest_is (low_each (us ++ w.at.rest) ready_way))
                    (cleared_fewer t2 p' s' kp ks row kr b kb us c)
                    (subst (RowApart p p' top byte (entry_at t i)) (sym n) (subst (λ (y : Row). RowApart p p' top byte (entry_of y) (entry_of q)) row_was d.trimmed.apart))
                    (stays_fewer t2 p' s' kp ks row kr b kb bs ready_rest.1 k);
                chunks = y.1;
              }

-- ---- what the loop asks of the row that is next

pub walk_ready : (front : Bool) (pattern : ℕ) (source p s : List ℕ) (t₀ t : List ℕ) (n k cur : ℕ) → Each (λ x. RowReady source p s (entry_at t₀ x)) (order t₀) → (l : Linked t₀)
    → WalkAt front pattern source p s t₀ t n k cur → k < n → RowReady source p s (entry_at t cur) × (cur * ROW + ROW ≤ length t)
walk_ready front pattern source p s t₀ t n k cur h l w g =
    let x = next_row front pattern source p s t₀ t n k cur l w g in
    let P : ℕ → Type 0 = λ a. RowReady source p s (entry_at t₀ a) in
    let q = subst (Each P) (w.place ∙ ap (λ (m : List ℕ). w.us ++ m) x.rest_is) (each_way front P (order t₀) h) in
    (subst (λ (y : Row). RowReady source p s (entry_of y)) (sym x.row_is) (each_right P w.us (cur ∷ x.bs) q).0, omega (arith, x.stands.most, l.room, w.len))

pub ready_each : {source p s t : List ℕ} {top wide byte : ℕ} → ChunksReady source p s top wide byte t → Each (λ x. RowReady source p s (entry_at t x)) (order t)
ready_each {source} {p} {s} {t} {top} {wide} {byte} h = each_map (ReadyAt source p s top wide byte t) (λ x. RowReady source p s (entry_at t x)) (λ a k. k.0) (order t) h.each
