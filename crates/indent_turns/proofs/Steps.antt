-- Laws of what `Steps` in specs/ defines.
use mathlib.Core.Path.{◌≡◌, refl, sym, ap, ap₂, ◌∙◌, subst}
use mathlib.Core.Bool.{Bool, true, false, ◌&&◌}
use mathlib.Core.List.{List, ◌++◌, map}
use mathlib.Core.Logic.{◌⊎◌, inl, inr}
use Prim.Native.Nat.{ℕ, ◌+◌, ◌≤◌, ◌<◌}
use native.Mathlib.Omega.{arith}
use lib.Dec.{leb}
use lib.ListN.{length, take}
use lib.Seq.{take_at, take-take}
use borrow.Author.Tests.{leb-true}
use Rattle.memory_layout.specs.Layout.{SOURCE_BYTES, CHUNKS, PIECES, PIECE_ROWS, PIECES_LEN, STORE_LEN}
use Rattle.utf8.specs.Chars.{All, nil, cons, concat}
use Rattle.memory_table.specs.Order.{Entry, entry_at, entries}
use Rattle.model.specs.Text.{sum}
use Rattle.model.specs.Chunk.{Chunk}
use Rattle.model.specs.MagicString.{MagicString, Result, ok}
use Rattle.model.specs.Limits.{full, within, chunk_pieces, chunk_bytes, piece_count, byte_count}
use Rattle.model.specs.Indent.{Pieces, indent_pieces, indent_by}
use Rattle.model.specs.WellFormed as model
use Rattle.model.proofs.Lists.{concat_sum, and_left, and_right}
use Rattle.memory.specs.Layout.{Place, run_of, chunk_of, magic_string_of}
use Rattle.memory.specs.WellFormed.{RunIn, ReplacementIn, EntryIn}
use Rattle.memory.proofs.Desks.{chunk_count, piece_front, desk_same}
use Rattle.memory_texts.proofs.Texts.{run_length}
use Rattle.memory_used.specs.Below.{Below}
use Rattle.edit_scratch.proofs.Front.{chunks_front}
use Rattle.edit_scratch.proofs.Tables.{few_chunks}
use Rattle.memory_texts.specs.Low.{RowsKept, BytesKept, TextLow, EntryLow}
use Rattle.memory_texts.proofs.Low.{entries_same, entries_still}
use Rattle.model_indent_closed.specs.Indent.{indented_chunks}
use Rattle.model_indent_closed.specs.Indent.{indented}
use Rattle.model_indent_closed.proofs.Walk.{indent_by_closed}
use Rattle.model_indent_closed.proofs.Growth.{desk_grows, past_chunks, past_bytes}
use Rattle.indent_head_tail.specs.Own.{Runs, OwnReady, OwnDone}
use Rattle.indent_chunks.specs.Walk.{chunks_of, closed_of, body_of}
use Rattle.model_preservation.proofs.Indent.{pieces_length}
use Rattle.indent_turns.specs.Rest.{RestReady, desk_left_of, tail_part_of, RestDone}
use Rattle.indent_turns.specs.Steps.{StepsReady, IndentSteps}

-- ---- the loaded desk lies below the rows and bytes behind the lent ones

module _ (p s y : List ℕ) (lp : length p ≤ PIECES_LEN) (ls : length s ≤ STORE_LEN) where
  run_low : (r : Place) → RunIn p s r → Below (p ++ y) STORE_LEN PIECE_ROWS r
  unfolding RunIn
  run_low r h k g =
      let e = ap (λ (x : Place). x.0 + x.1) (piece_front p y (r.0 + k) (omega (arith, (h k g).row))) in
      (omega (arith, (h k g).row), omega (arith, (h k g).text, e))

  entry_low : (e : Entry) → EntryIn p s e → EntryLow (p ++ y) PIECE_ROWS STORE_LEN e
  unfolding ReplacementIn
  entry_low e h =
      record { runs = record { intro = run_low e.intro h.runs.intro; outro = run_low e.outro h.runs.outro }; text = λ n. omega (arith, h.replacement n) }

  entries_low : {es : List Entry} → All (EntryIn p s) es → All (EntryLow (p ++ y) PIECE_ROWS STORE_LEN) es
  entries_low nil = nil
  entries_low (cons {x = e} h k) = cons (entry_low e h) (entries_low k)

text_low : (p s : List ℕ) (e : Entry) → EntryIn p s e → TextLow (length s) e.text
unfolding ReplacementIn
text_low p s e h n = h.replacement n

texts_low : (p s : List ℕ) {es : List Entry} → All (EntryIn p s) es → All (λ e. TextLow (length s) e.text) es
texts_low p s nil = nil
texts_low p s (cons {x = e} h k) = cons (text_low p s e h) (texts_low p s k)

-- ---- the limits

few_pieces : (m : MagicString) → within full m ≡ true → piece_count m ≤ PIECES
unfolding within
few_pieces m e =
    leb-true (piece_count m) PIECES
    (and_left (leb (piece_count m) PIECES) (leb (byte_count m) STORE_LEN)
    (and_right (leb (length m.chunks) CHUNKS) (leb (piece_count m) PIECES && leb (byte_count m) STORE_LEN)
    (and_right (leb (length m.source) SOURCE_BYTES) (leb (length m.chunks) CHUNKS && (leb (piece_count m) PIECES && leb (byte_count m) STORE_LEN)) e)))

module _ (indentor exclude source t p s p1 s1 : List ℕ) (w : StepsReady source t p s p1 s1) where
  abbrev m : MagicString
  m = magic_string_of source t p s

  abbrev head : Pieces
  head = indent_pieces indentor true (run_of p s (entry_at t 0).intro)

  counted : ((entry_at t 0).intro.1 + (entry_at t 0).outro.1) + sum chunk_pieces (chunks_of t p s) ≤ PIECES
  unfolding magic_string_of
  counted =
      omega (
        arith,
        few_pieces (magic_string_of source t p s) w.desk.limits,
        run_length p s (entry_at t 0).intro.0 (entry_at t 0).intro.1,
        run_length p s (entry_at t 0).outro.0 (entry_at t 0).outro.1,
      )

  intro_valid : All model.Valid (run_of p s (entry_at t 0).intro)
  unfolding magic_string_of
  intro_valid = w.desk.formed.intro

  outro_valid : All model.Valid (run_of p s (entry_at t 0).outro)
  unfolding magic_string_of
  outro_valid = w.desk.formed.outro

  -- what the model leaves
  closed_is : indent_by indentor exclude m ≡ ok (indented indentor exclude m)
  closed_is = indent_by_closed indentor exclude m w.desk.formed

  past_is : within full (indented indentor exclude m) ≡ false → within full (indent_by indentor exclude m).desk ≡ false
  past_is e = ap (λ (x : Result). within full x.desk) closed_is ∙ e

  pub head_ready : OwnReady false p s t p1 s1 PIECE_ROWS STORE_LEN
  head_ready =
      record {
        linked = w.readable.linked;
        run =
            record {
              inside = w.readable.desk.intro;
              valid = intro_valid;
              rows = omega (arith, counted, w.long_pieces);
              rows_narrow = omega (arith, w.long_pieces);
              byte_in = omega (arith, w.long_store);
              narrow = omega (arith, w.long_store);
            };
      }

  -- the head alone is too long
  pub steps_head : length s1 < STORE_LEN + length (concat head.pieces) → (t' p' s' : List ℕ) → IndentSteps indentor exclude source t p s t' p' s' 13
  unfolding indented magic_string_of
  steps_head e t' p' s' =
      record {
        zero_or = inr refl;
        did = λ e. absurd (omega arith);
        past = λ _. past_is (past_bytes full (indented indentor exclude m) (omega (arith, e, w.long_store, concat_sum head.pieces)));
      }

  module _ {t3 p3 s3 : List ℕ} {mark : Bool} {byte : ℕ} (o : OwnDone false indentor true (run_of p s (entry_at t 0).intro) t p1 s1 PIECE_ROWS STORE_LEN t3 p3 s3 mark byte) where
    rows_kept : RowsKept PIECE_ROWS p1 p3
    rows_kept = o.put.rows

    bytes_kept : BytesKept STORE_LEN s1 s3
    bytes_kept = o.put.bytes

    up : STORE_LEN ≤ byte
    up = omega (arith, o.put.byte_is)

    low : All (EntryLow p1 PIECE_ROWS STORE_LEN) (entries t)
    low = subst (λ (x : List ℕ). All (EntryLow x PIECE_ROWS STORE_LEN) (entries t)) (sym w.pieces_is) (entries_low p s w.behind w.pieces w.store w.readable.chunks)

    chunks_are : chunks_of t3 p3 s3 ≡ chunks_of t p s
    chunks_are =
        ap (map (chunk_of p3 s3)) o.desk.chunks
        ∙ entries_same PIECE_ROWS STORE_LEN p1 s1 p3 s3 rows_kept bytes_kept low
        ∙ ap₂ (λ (x z : List ℕ). map (chunk_of x z) (entries t)) w.pieces_is w.store_is
        ∙ chunks_front p s w.behind w.after w.readable.chunks

    formed : model.Formed (body_of source (chunks_of t p s))
    unfolding magic_string_of
    formed = let f = w.desk.formed in record { source = f.source; covered = f.covered; intro = nil; outro = nil; texts = f.texts }

    head_length : length head.pieces ≡ (entry_at t 0).intro.1
    head_length = pieces_length indentor true (run_of p s (entry_at t 0).intro) ∙ run_length p s (entry_at t 0).intro.0 (entry_at t 0).intro.1

    head_at : (entry_at t3 0).intro ≡ (PIECE_ROWS, length head.pieces)
    head_at = ap (λ (x : Runs). x.0) o.desk.desk ∙ ap (λ (n : ℕ). (PIECE_ROWS, n)) (sym head_length)

    tail_at : (entry_at t3 0).outro ≡ (entry_at t 0).outro
    tail_at = ap (λ (x : Runs). x.1) o.desk.desk

    store_front : take (length s) s3 ≡ s
    store_front =
        sym (take-take (length s) STORE_LEN s3 w.store) ∙ ap (take (length s)) bytes_kept.bytes
        ∙ take-take (length s) STORE_LEN s1 w.store ∙ ap (take (length s)) w.store_is ∙ take_at s w.after (length s) refl

    -- the rows behind the head are free
    pub rest_ready : (top : ℕ) → top ≡ PIECE_ROWS + (entry_at t 0).intro.1 → RestReady source p s t3 p3 s3 top byte
    rest_ready top n =
        let head-low : Below p3 byte top (PIECE_ROWS, length head.pieces) = λ k h. let b = o.put.low k h in (omega (arith, b.0, head_length), b.1) in
        record {
          walk =
              record {
                linked = o.desk.linked;
                formed = subst (λ (x : List Chunk). model.Formed (body_of source x)) (sym chunks_are) formed;
                low = subst (All (EntryLow p3 top byte)) (sym o.desk.chunks) (entries_still PIECE_ROWS STORE_LEN p1 p3 rows_kept top byte (omega arith) (omega (arith, up)) low);
                texts_low = subst (All (λ e. TextLow (length s) e.text)) (sym o.desk.chunks) (texts_low p s w.readable.chunks);
                store_front = store_front;
                store_low = omega (arith, up, w.store);
                few = omega (arith, o.desk.count, few_chunks source t p s w.desk.limits);
                chunk_rows = omega (arith, o.len, w.chunks);
                narrow_chunks = omega (arith, o.len, w.chunks);
                rows = omega (arith, counted, ap (sum chunk_pieces) chunks_are, rows_kept.len, w.long_pieces);
                narrow_pieces = omega (arith, rows_kept.len, w.long_pieces);
                byte_in = o.put.byte_in;
                narrow = omega (arith, bytes_kept.len, w.long_store);
              };
          head = subst (Below p3 byte top) (sym head_at) head-low;
          inside = subst (RunIn p s) (sym tail_at) w.readable.desk.outro;
          valid = subst (λ (x : Place). All model.Valid (run_of p s x)) (sym tail_at) outro_valid;
          few = omega (arith, counted, ap (sum chunk_pieces) chunks_are, ap (λ (x : Place). x.1) tail_at);
          long_pieces = rows_kept.len ∙ w.long_pieces;
          long_store = bytes_kept.len ∙ w.long_store;
        }

    -- the chunks and the tail, of the desk before
    closed_same : closed_of indentor exclude source t3 p3 s3 mark ≡ indented_chunks indentor exclude source head.mark (chunks_of t p s)
    closed_same = ap₂ (λ (b : Bool) (cs : List Chunk). indented_chunks indentor exclude source b cs) o.mark_is chunks_are

    tail_same : tail_part_of indentor exclude source p s t3 p3 s3 mark ≡ indent_pieces indentor (indented_chunks indentor exclude source head.mark (chunks_of t p s)).mark
        (run_of p s (entry_at t 0).outro)
    tail_same = ap₂ (λ (b : Bool) (x : Place). indent_pieces indentor b (run_of p s x)) (ap (λ z. z.mark) closed_same) tail_at

    left_is : desk_left_of indentor exclude source p s t3 p3 s3 mark ≡ indented indentor exclude m
    unfolding indented magic_string_of
    left_is = desk_same source (ap (run_of p3 s3) head_at ∙ o.put.run) (ap (λ (x : Pieces). x.pieces) tail_same) (ap (λ z. z.chunks) closed_same)

    module _ {t4 p4 s4 : List ℕ} {r : ℕ} (x : RestDone indentor exclude source p s t3 p3 s3 mark byte t4 p4 s4 r) where
      past_rest : (CHUNKS < length (closed_of indentor exclude source t3 p3 s3 mark).chunks)
          ⊎ (length s3 < byte + (sum chunk_bytes (closed_of indentor exclude source t3 p3 s3 mark).chunks + length (concat (tail_part_of indentor exclude source p s t3 p3 s3 mark).pieces)))
          → within full (desk_left_of indentor exclude source p s t3 p3 s3 mark) ≡ false
      past_rest (inl a) = past_chunks full (desk_left_of indentor exclude source p s t3 p3 s3 mark) a
      past_rest (inr b) =
          past_bytes full (desk_left_of indentor exclude source p s t3 p3 s3 mark)
          (omega (
            arith,
            b,
            bytes_kept.len,
            w.long_store,
            o.put.byte_is,
            concat_sum head.pieces,
            ap (sum length) (ap (run_of p3 s3) head_at ∙ o.put.run),
            concat_sum (tail_part_of indentor exclude source p s t3 p3 s3 mark).pieces,
          ))

      pub steps_rest : IndentSteps indentor exclude source t p s t4 p4 s4 r
      steps_rest =
          record {
            zero_or = x.zero_or;
            did = λ z.
                let g = x.done z in
                record {
                  readable = g.readable;
                  result = closed_is ∙ ap ok (sym left_is ∙ sym g.desk);
                  cuts = omega (arith, chunk_count source t p s, chunk_count source t4 p4 s4, ap (λ (d : MagicString). length d.chunks) (g.desk ∙ left_is), desk_grows indentor exclude m);
                };
            past = λ z. past_is (ap (within full) (sym left_is) ∙ past_rest (x.past z));
          }
