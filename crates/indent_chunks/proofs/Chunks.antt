-- Laws of what `Chunks` in specs/ defines.
use mathlib.Core.Path.{◌≡◌, refl, sym, ap, ap₂, ◌∙◌, subst}
use mathlib.Core.Bool.{Bool}
use mathlib.Core.List.{List, [], ◌∷◌, ◌++◌, map, append_assoc, append-nil, map-append}
use mathlib.Core.Logic.{◌⊎◌, inl, inr, ⊎_elim}
use Rattle.std.specs.Prelude.{Option, None}
use Prim.Native.Nat.{ℕ, suc, ◌+◌, ◌*◌, ◌-◌, ◌≤◌, ◌<◌}
use native.Mathlib.Omega.{arith}
use lib.ListN.{length, length-append, length-map}
use Rattle.memory_layout.specs.Layout.{ROW, CHUNKS}
use Rattle.utf8.specs.Chars.{All, nil, cons}
use Rattle.memory_table.specs.declared.Row.{Row}
use Rattle.memory_table.specs.Ring.{Edge, Links}
use Rattle.memory_table.proofs.Ring.{links_right}
use Rattle.memory_table.specs.Table.{row_at}
use Rattle.memory_table.specs.Order.{Entry, entry_at, order, next_of, prev_of, count_of, Linked}
use Rattle.memory_table.proofs.Order.{order_length, inside_at}
use Rattle.model.specs.Text.{sum}
use Rattle.model.proofs.Lists.{first_of, rest_of, all_append, sum_append}
use Rattle.model.specs.Chunk.{Chunk, content}
use Rattle.model.specs.Limits.{chunk_pieces, chunk_bytes}
use Rattle.model.specs.WellFormed.{Valid, ValidTexts}
use Rattle.memory.specs.Layout.{chunk_of}
use Rattle.memory_texts.proofs.Over.{part_kept}
use Rattle.memory_texts.proofs.Texts.{run_length}
use Rattle.model_preservation.proofs.Spans.{Inside, spans_inside}
use Rattle.model_preservation.proofs.Trim.{content_valid}
use Rattle.memory_texts.specs.Low.{RowsKept, BytesKept, TextLow, EntryLow}
use Rattle.memory_texts.proofs.Low.{rows_same, bytes_same, entry_same, entry_still, entries_same, entries_still}
use Rattle.model_indent_closed.specs.Indent.{IndentedChunks, then_chunks, indented_chunks}
use Rattle.model_indent_closed.proofs.Growth.{chunks_grow}
use Rattle.indent_chunks.specs.Walk.{chunks_of, WalkReady, closed_of}
use Rattle.indent_chunks.proofs.Walk.{Past, ChunksIndented}
use Rattle.indent_cuts.specs.Splice.{SplicedAt}
use Rattle.indent_cuts.proofs.Splice.{spliced_before, spliced_behind}
use Rattle.indent_chunks.specs.Row.{RowReady, closed_row, RowIndented}
use Rattle.indent_chunks.specs.Chunks.{RestRow, head_or, chunks_of_rows, WalkAt}

-- ---- links

next_head : (nx pv : ℕ → ℕ) (i : ℕ) (bs : List ℕ) → Links (Edge nx pv) i bs 0 → nx i ≡ head_or bs
next_head nx pv i [] l = l.fwd
next_head nx pv i (x ∷ bs) l = l.0.fwd

first_row : (t : List ℕ) → Linked t → next_of t 0 ≡ head_or (order t)
unfolding order
first_row t l = next_head (next_of t) (prev_of t) 0 (order t) l.ring.links

next_row : (t us : List ℕ) (i : ℕ) (bs : List ℕ) → Linked t → order t ≡ us ++ i ∷ bs → next_of t i ≡ head_or bs
unfolding order
next_row t us i bs l o =
    next_head (next_of t) (prev_of t) i bs (links_right (Edge (next_of t) (prev_of t)) 0 us i bs 0 (subst (λ (m : List ℕ). Links (Edge (next_of t) (prev_of t)) 0 m 0) o l.ring.links))

-- ---- the start

rest_rows : (source store p s : List ℕ) (top byte : ℕ) → Valid source → {es : List Entry} → All (EntryLow p top byte) es → All (λ e. TextLow (length store) e.text) es →
    All (Inside source) (map (chunk_of p s) es)
    → All (λ c. ValidTexts c.texts) (map (chunk_of p s) es) → All (RestRow source store p s top byte) es
rest_rows source store p s top byte v nil nil nil nil = nil
rest_rows source store p s top byte v (cons {x = e} a ls) (cons b bs) (cons c cs) (cons d ds) =
    cons (record { low = a; span = record { ordered = c.ordered; inside = c.inside }; valid = content_valid source (chunk_of p s e) v c d; text_low = b })
    (rest_rows source store p s top byte v ls bs cs ds)

pub walk_start : {source store t p s : List ℕ} {top byte : ℕ} (indentor exclude : List ℕ) (mark : Bool) (z : Row) → WalkReady source store t p s top byte → z ≡ row_at t 0
    → WalkAt indentor exclude source store t p s mark top byte z.start t p s 0 z.next mark top byte None
walk_start {source} {store} {t} {p} {s} {top} {byte} indentor exclude mark z h ez =
    record {
      us = [];
      rest = order t;
      order_is = refl;
      size = omega (arith, order_length t, ap (λ (r : Row). r.start) ez);
      here = ap (λ (r : Row). r.next) ez ∙ first_row t h.linked;
      linked = h.linked;
      desk = refl;
      len = refl;
      rows = rows_same top p;
      bytes = bytes_same byte s;
      top_up = omega arith;
      byte_up = omega arith;
      byte_in = h.byte_in;
      low = nil;
      todo = rest_rows source store p s top byte h.formed.source h.low h.texts_low (spans_inside source (chunks_of t p s) h.formed.covered) h.formed.texts;
      indentor_at = tt;
      result = refl;
      rows_used = omega (arith, order_length t, h.few);
      bytes_used = omega arith;
    }

-- ---- a turn

rest_low : {source store p s : List ℕ} {top byte : ℕ} {es : List Entry} → All (RestRow source store p s top byte) es → All (EntryLow p top byte) es
rest_low nil = nil
rest_low (cons h k) = cons h.low (rest_low k)

-- the rows that are left, in tables that have grown
rest_still : {source store p s p' s' : List ℕ} {top byte : ℕ} (top' byte' : ℕ) → RowsKept top p p' → BytesKept byte s s' → top ≤ top' → byte ≤ byte' → {es : List Entry}
    → All (RestRow source store p s top byte) es → All (RestRow source store p' s' top' byte') es
rest_still top' byte' kp ks ht hb nil = nil
rest_still {source} {store} {p} {s} {p'} {s'} {top} {byte} top' byte' kp ks ht hb (cons {x = e} h k) =
    cons
    (record {
      low = entry_still top byte p p' kp top' byte' ht hb e h.low;
      span = h.span;
      valid = subst (λ (c : Chunk). Valid (content source c)) (sym (entry_same top byte p s p' s' kp ks e h.low)) h.valid;
      text_low = h.text_low;
    })
    (rest_still top' byte' kp ks ht hb k)

pub record NextRow (t us rest : List ℕ) (cur : ℕ) : Type 0 where
  pub bs : List ℕ
  pub rest_is : rest ≡ cur ∷ bs
  pub place : order t ≡ us ++ cur ∷ bs
  pub step : next_of t cur ≡ head_or bs

module _ {indentor exclude source store t₀ p₀ s₀ : List ℕ} {mark₀ : Bool} {top₀ byte₀ n : ℕ} {t p s : List ℕ} {k cur : ℕ} {mark : Bool} {top byte : ℕ} {laid : Option ℕ}
    (h : WalkReady source store t₀ p₀ s₀ top₀ byte₀) (w : WalkAt indentor exclude source store t₀ p₀ s₀ mark₀ top₀ byte₀ n t p s k cur mark top byte laid) where
  abbrev us : List ℕ
  us = w.us

  module _ (g : k < n) where
    next : NextRow t w.us w.rest cur
    next = go w.rest refl
      where
        go : (r : List ℕ) → w.rest ≡ r → NextRow t w.us w.rest cur
        go [] e = absurd (omega (arith, ap length e, w.size))
        go (i ∷ bs) e =
            let c : cur ≡ i = w.here ∙ ap head_or e in
            let q : w.rest ≡ cur ∷ bs = e ∙ ap (λ (x : ℕ). x ∷ bs) (sym c) in
            let o : order t ≡ us ++ cur ∷ bs = w.order_is ∙ ap (λ (m : List ℕ). us ++ m) q in
            record { bs = bs; rest_is = q; place = o; step = next_row t us cur bs w.linked o }

    abbrev bs : List ℕ
    bs = next.bs

    rest_here : All (RestRow source store p s top byte) (entry_at t cur ∷ map (entry_at t) bs)
    rest_here = subst (λ (l : List ℕ). All (RestRow source store p s top byte) (map (entry_at t) l)) next.rest_is w.todo

    rows_here : top + (CHUNKS - count_of t) + ((chunk_pieces (chunk_of p s (entry_at t cur)) + sum chunk_pieces (chunks_of_rows t p s bs)) + suc (length bs))
        ≤ top₀ + (sum chunk_pieces (chunks_of t₀ p₀ s₀) + CHUNKS)
    rows_here =
        subst (λ (l : List ℕ). top + (CHUNKS - count_of t) + (sum chunk_pieces (chunks_of_rows t p s l) + length l) ≤ top₀ + (sum chunk_pieces (chunks_of t₀ p₀ s₀) + CHUNKS)) next.rest_is
        w.rows_used

    result_here : closed_of indentor exclude source t₀ p₀ s₀ mark₀ ≡ then_chunks (chunks_of_rows t p s us) (indented_chunks indentor exclude source mark (chunk_of p s (entry_at t cur) ∷ chunks_of_rows t p s bs))
    result_here = w.result ∙ ap (λ (l : List ℕ). then_chunks (chunks_of_rows t p s us) (indented_chunks indentor exclude source mark (chunks_of_rows t p s l))) next.rest_is

    -- what the row is asked
    pub walk_row : cur * ROW + ROW ≤ length t
    walk_row = omega (arith, w.linked.room, (inside_at t us cur bs w.linked next.place).1)

    pub walk_ready : RowReady indentor source store t p s cur top byte laid
    walk_ready =
        let e = entry_at t cur in
        let r = first_of rest_here in
        record {
          row =
              record {
                linked = w.linked;
                placed = record { us = us; bs = bs; place = next.place };
                span = r.span;
                valid = r.valid;
                low = r.low;
                indentor_at = w.indentor_at;
                chunk_rows = omega (arith, h.chunk_rows, w.len);
                narrow_chunks = omega (arith, h.narrow_chunks, w.len);
                rows = omega (arith, h.rows, rows_here, w.rows.len, run_length p s e.intro.0 e.intro.1);
                narrow_pieces = omega (arith, h.narrow_pieces, w.rows.len);
                byte_in = w.byte_in;
                narrow = omega (arith, h.narrow, w.bytes.len);
              };
          text_low = r.text_low;
          store_front = part_kept (length store) 0 byte₀ s₀ s w.bytes.bytes (omega (arith, h.store_low)) ∙ h.store_front;
        }

    -- the chunks pass a limit
    pub walk_past : (CHUNKS + 1 < count_of t + length (closed_row indentor exclude source t p s cur mark).chunks)
        ⊎ (length s < byte + sum chunk_bytes (closed_row indentor exclude source t p s cur mark).chunks)
        → Past (closed_of indentor exclude source t₀ p₀ s₀ mark₀).chunks byte₀ (length s₀)
    walk_past d =
        let C = closed_row indentor exclude source t p s cur mark in
        let D = indented_chunks indentor exclude source C.mark (chunks_of_rows t p s bs) in
        let q = ap (λ (y : IndentedChunks). y.chunks) result_here in
        ⊎_elim
        (λ y.
        inl
        (omega (
          arith,
          y,
          ap length q,
          length-append (chunks_of_rows t p s us) (C.chunks ++ D.chunks),
          length-append C.chunks D.chunks,
          (chunks_grow indentor exclude source C.mark (chunks_of_rows t p s bs)).chunks,
          length-map (map (entry_at t) us) (chunk_of p s),
          length-map us (entry_at t),
          length-map (map (entry_at t) bs) (chunk_of p s),
          length-map bs (entry_at t),
          order_length t,
          ap length next.place,
          length-append us (cur ∷ bs),
        )))
        (λ y. inr (omega (
          arith,
          y,
          ap (sum chunk_bytes) q,
          sum_append chunk_bytes (chunks_of_rows t p s us) (C.chunks ++ D.chunks),
          sum_append chunk_bytes
              C.chunks D.chunks,
          w.bytes_used,
          w.bytes.len,
        )))
        d

    -- one chunk more
    module _ {t' p' s' : List ℕ} {mark' : Bool} {top' byte' : ℕ} {laid' : Option ℕ} (d : RowIndented indentor exclude source t p s cur mark top byte t' p' s' mark' top' byte' laid') where
      at : SplicedAt t' us bs d.es
      at = d.spliced.place us bs next.place

      done_entries : map (entry_at t') (us ++ at.vs) ≡ map (entry_at t) us ++ d.es
      done_entries = map-append (entry_at t') us at.vs ∙ ap₂ (λ (xs ys : List Entry). xs ++ ys) (spliced_before w.linked d.spliced us bs next.place) at.here

      rest_entries : map (entry_at t') bs ≡ map (entry_at t) bs
      rest_entries = spliced_behind w.linked d.spliced us bs next.place

      done_chunks : chunks_of_rows t' p' s' (us ++ at.vs) ≡ chunks_of_rows t p s us ++ (closed_row indentor exclude source t p s cur mark).chunks
      done_chunks =
          ap (map (chunk_of p' s')) done_entries
          ∙ map-append (chunk_of p' s') (map (entry_at t) us) d.es
          ∙ ap₂ (λ (xs ys : List Chunk). xs ++ ys) (entries_same top byte p s p' s' d.rows d.bytes w.low) d.chunks

      rest_chunks : chunks_of_rows t' p' s' bs ≡ chunks_of_rows t p s bs
      rest_chunks = ap (map (chunk_of p' s')) rest_entries ∙ entries_same top byte p s p' s' d.rows d.bytes (rest_low (rest_of rest_here))

      pub walk_more : (r : Row) → r ≡ row_at t cur → WalkAt indentor exclude source store t₀ p₀ s₀ mark₀ top₀ byte₀ n t' p' s' (k + 1) r.next mark' top' byte' laid'
      walk_more r er =
          let C = closed_row indentor exclude source t p s cur mark in
          record {
            us = us ++ at.vs;
            rest = bs;
            order_is = at.order_is ∙ sym (append_assoc us at.vs bs);
            size = omega (arith, w.size, ap length next.rest_is);
            here = ap (λ (y : Row). y.next) er ∙ next.step;
            linked = d.spliced.linked;
            desk = d.spliced.desk ∙ w.desk;
            len = d.spliced.len ∙ w.len;
            rows = record { len = d.rows.len ∙ w.rows.len; rows = λ j g. d.rows.rows j (omega (arith, w.top_up)) ∙ w.rows.rows j g };
            bytes = record { len = d.bytes.len ∙ w.bytes.len; bytes = part_kept byte₀ 0 byte s s' d.bytes.bytes (omega (arith, w.byte_up)) ∙ w.bytes.bytes };
            top_up = omega (arith, w.top_up, d.top_up);
            byte_up = omega (arith, w.byte_up, d.byte_up);
            byte_in = d.byte_in;
            low = subst (All (EntryLow p' top' byte')) (sym done_entries) (all_append (entries_still top byte p p' d.rows top' byte' d.top_up d.byte_up w.low) d.low);
            todo = subst (All (RestRow source store p' s' top' byte')) (sym rest_entries) (rest_still top' byte' d.rows d.bytes d.top_up d.byte_up (rest_of rest_here));
            indentor_at = d.indentor_at;
            result =
                let D : IndentedChunks = indented_chunks indentor exclude source C.mark (chunks_of_rows t p s bs) in
                result_here
                ∙ ap (λ (l : List Chunk). record { mark = D.mark; chunks = l }) (sym (append_assoc (chunks_of_rows t p s us) C.chunks D.chunks))
                ∙ ap₂ (λ (l : List Chunk) (y : IndentedChunks). then_chunks l y) (sym done_chunks)
                (ap₂ (λ (m : Bool) (l : List Chunk). indented_chunks indentor exclude source m l) (sym d.mark_is) (sym rest_chunks));
            rows_used = omega (arith, rows_here, d.rows_used, ap (sum chunk_pieces) rest_chunks);
            bytes_used = omega (arith, d.bytes_used, w.bytes_used, ap (sum chunk_bytes) done_chunks, sum_append chunk_bytes (chunks_of_rows t p s us) C.chunks);
          }

  -- ---- the end

  pub walk_end : n ≤ k → ChunksIndented indentor exclude source t₀ p₀ s₀ mark₀ top₀ byte₀ t p s mark top byte
  walk_end g = go w.rest refl
    where
      go : (r : List ℕ) → w.rest ≡ r → ChunksIndented indentor exclude source t₀ p₀ s₀ mark₀ top₀ byte₀ t p s mark top byte
      go (x ∷ r) e = absurd (omega (arith, ap length e, w.size))
      go [] e =
          let o : order t ≡ us = w.order_is ∙ ap (λ (l : List ℕ). us ++ l) e ∙ append-nil us in
          let q : closed_of indentor exclude source t₀ p₀ s₀ mark₀ ≡ record { mark = mark; chunks = chunks_of_rows t p s us } =
          w.result
          ∙ ap (λ (l : List ℕ). then_chunks (chunks_of_rows t p s us) (indented_chunks indentor exclude source mark (chunks_of_rows t p s l))) e
          ∙ ap (λ (l : List Chunk). record { mark = mark; chunks = l }) (append-nil (chunks_of_rows t p s us)) in
          record {
            linked = w.linked;
            desk = w.desk;
            rows = w.rows;
            bytes = w.bytes;
            top_up = w.top_up;
            byte_up = w.byte_up;
            byte_in = w.byte_in;
            low = subst (λ (l : List ℕ). All (EntryLow p top byte) (map (entry_at t) l)) (sym o) w.low;
            chunks = ap (λ (l : List ℕ). chunks_of_rows t p s l) o ∙ sym (ap (λ (y : IndentedChunks). y.chunks) q);
            mark_is = sym (ap (λ (y : IndentedChunks). y.mark) q);
            rows_used = omega (arith, w.rows_used);
            bytes_used = omega (arith, w.bytes_used, ap (λ (y : IndentedChunks). sum chunk_bytes y.chunks) q);
          }
