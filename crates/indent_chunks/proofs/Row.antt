-- Laws of what `Row` in specs/ defines.
use mathlib.Core.Path.{◌≡◌, sym, ap, ap₂, ◌∙◌, subst}
use mathlib.Core.Bool.{Bool, true, false}
use mathlib.Core.List.{List, [], ◌∷◌, append-nil}
use mathlib.Core.Option.{Option as Maybe, none, some}
use Rattle.std.specs.Prelude.{Option, Some, None, IfSome}
use Prim.Native.Nat.{ℕ, ◌+◌, ◌≤◌, ◌<◌}
use native.Mathlib.Omega.{arith}
use lib.ListN.{length, take, drop}
use lib.Seq.{take_all}
use Rattle.memory_layout.specs.Layout.{NONE, CHUNKS}
use Rattle.utf8.specs.Chars.{nil, cons}
use Rattle.memory_table.specs.Order.{Entry, entry_at, count_of}
use Rattle.model.specs.Text.{Text, sum, unwrap_or}
use Rattle.model.specs.Chunk.{Chunk, with_texts, span_text, edit}
use Rattle.model.specs.Limits.{chunk_pieces, chunk_bytes}
use Rattle.model.specs.Indent.{Indented, indent_frag, excluded, Starts, then_start}
use Rattle.model.specs.WellFormed.{Valid}
use Rattle.memory.specs.Layout.{bytes_at, replacement_of, chunk_of}
use Rattle.memory.proofs.Desks.{none_text, some_text}
use Rattle.memory_texts.proofs.Over.{length_over, take_over, over_part, part_kept}
use Rattle.memory_texts.proofs.Texts.{run_length}
use Rattle.memory_texts.specs.Low.{BytesKept, EntryLow}
use Rattle.memory_texts.proofs.Low.{rows_same, bytes_same, run_same, run_still, entry_same, entry_still}
use Rattle.model_indent_closed.specs.Indent.{split_lines, IndentedChunks}
use Rattle.model_indent_closed.proofs.Indent.{indented_lines, indented_excluded, indented_replaced}
use Rattle.model_indent_closed.proofs.Growth.{lines_indentor, replaced_bytes}
use Rattle.indent_line_starts.specs.Next.{StartAt}
use Rattle.indent_mark.proofs.ByCharacters.{line_starts_is}
use Rattle.indent_cuts.specs.Splice.{with_text_at}
use Rattle.indent_cuts.proofs.Splice.{spliced_same, spliced_set}
use Rattle.indent_cuts.specs.Lines.{lines_from, parts, Parts}
use Rattle.indent_cuts.proofs.Lines.{lines_parts}
use Rattle.indent_head_tail.specs.Own.{IndentorAt, LaidText}
use Rattle.indent_source_chunk.specs.Source.{SourceReady}
use Rattle.indent_replaced_chunk.specs.Replacement.{ReplacementReady, Replaced}
use Rattle.indent_chunks.specs.Row.{RowAt, RowReady, closed_row, RowIndented}

-- ---- the row

content_or_is : {o : Maybe Text} (p : Maybe Text) (x : Text) → o ≡ p → unwrap_or o x ≡ unwrap_or p x
content_or_is p x e = ap (λ (y : Maybe Text). unwrap_or y x) e

-- a row that stays
row_stays : {indentor source t p s : List ℕ} {i top byte : ℕ} {laid : Option ℕ} (exclude : List ℕ) (mark : Bool) → RowAt indentor source t p s i top byte laid → (m : Bool)
    → closed_row indentor exclude source t p s i mark ≡ record { mark = m; chunks = chunk_of p s (entry_at t i) ∷ [] }
    → RowIndented indentor exclude source t p s i mark top byte t p s m top byte laid
row_stays {indentor} {source} {t} {p} {s} {i} {top} {byte} exclude mark h m q =
    record {
      es = entry_at t i ∷ [];
      spliced = spliced_same t i h.linked;
      rows = rows_same top p;
      bytes = bytes_same byte s;
      top_up = omega arith;
      byte_up = omega arith;
      byte_in = h.byte_in;
      chunks = sym (ap (λ (y : IndentedChunks). y.chunks) q);
      mark_is = sym (ap (λ (y : IndentedChunks). y.mark) q);
      low = cons h.low nil;
      indentor_at = h.indentor_at;
      rows_used = omega arith;
      bytes_used = omega arith;
    }

-- a chunk without a replacement, with the search for its first line start
module _ {indentor source t p s : List ℕ} {i top byte : ℕ} {laid : Option ℕ} (exclude : List ℕ) (mark : Bool) (h : RowAt indentor source t p s i top byte laid) (none_is : (entry_at t i).text.0 ≡ NONE) where
  abbrev e₁ : Entry
  e₁ = entry_at t i

  abbrev c₁ : Chunk
  c₁ = chunk_of p s (entry_at t i)

  pieces_are : chunk_pieces c₁ ≡ e₁.intro.1 + e₁.outro.1
  pieces_are = ap₂ (λ (x y : ℕ). x + y) (run_length p s e₁.intro.0 e₁.intro.1) (run_length p s e₁.outro.0 e₁.outro.1)

  edited_none : c₁.texts.edited_content ≡ none
  edited_none = none_text s e₁.text none_is

  module _ {start end : ℕ} (es : start ≡ e₁.start) (ee : end ≡ e₁.end) where
    lines_span : (start ≤ end) × (end ≤ length source)
    lines_span = (omega (arith, h.span.ordered), omega (arith, h.span.inside))

    abbrev W : Starts
    W = lines_from exclude source mark start end

    lines_are : lines_from exclude source mark e₁.start e₁.end ≡ W
    lines_are = ap₂ (λ (x y : ℕ). lines_from exclude source mark x y) (sym es) (sym ee)

    closed_lines : closed_row indentor exclude source t p s i mark ≡ record { mark = W.mark; chunks = split_lines indentor c₁ W.starts }
    closed_lines =
        let v : Valid (span_text c₁.span source) = subst Valid (content_or_is none (span_text c₁.span source) edited_none) h.valid in
        indented_lines indentor exclude source mark c₁ edited_none
        ∙ ap (λ (y : Starts). record { mark = y.mark; chunks = split_lines indentor c₁ y.starts }) (line_starts_is exclude mark e₁.start (span_text c₁.span source) v ∙ lines_are)

    -- no line start
    pub lines_none : (m : Bool) → W ≡ record { mark = m; starts = [] } → RowIndented indentor exclude source t p s i mark top byte t p s m top byte laid
    lines_none m n = row_stays exclude mark h m (closed_lines ∙ ap (λ (y : Starts). record { mark = y.mark; chunks = split_lines indentor c₁ y.starts }) n)

    module _ (x : ℕ) (n : StartAt source exclude mark start end x) where
      abbrev W₁ : Starts
      W₁ = then_start x (lines_from exclude source false (x + 1) end)

      closed_then : closed_row indentor exclude source t p s i mark ≡ record { mark = W₁.mark; chunks = split_lines indentor c₁ W₁.starts }
      closed_then = closed_lines ∙ ap (λ (y : Starts). record { mark = y.mark; chunks = split_lines indentor c₁ y.starts }) n.found

      chunks_then : (closed_row indentor exclude source t p s i mark).chunks ≡ split_lines indentor c₁ W₁.starts
      chunks_then = ap (λ (y : IndentedChunks). y.chunks) closed_then

      -- the chunk's bytes hold the indentor's
      lines_bytes : length indentor ≤ sum chunk_bytes (closed_row indentor exclude source t p s i mark).chunks
      lines_bytes = omega (arith, ap (sum chunk_bytes) chunks_then, lines_indentor indentor c₁ x (lines_from exclude source false (x + 1) end).starts edited_none)

      -- the indentor does not fit
      pub lines_short : length s < byte + length indentor → length s < byte + sum chunk_bytes (closed_row indentor exclude source t p s i mark).chunks
      lines_short d = omega (arith, d, lines_bytes)

      pub source_ready : SourceReady exclude source t p i start x end top
      source_ready =
          record {
            linked = h.linked;
            placed = h.placed;
            at_start = es;
            from_on = n.from_on;
            below = n.below;
            inside = lines_span.1;
            begins = n.again;
            under = λ k g. (h.low.runs.intro k g).0;
            chunk_rows = h.chunk_rows;
            narrow_chunks = h.narrow_chunks;
            piece_rows = h.rows;
            narrow_pieces = omega (arith, h.narrow_pieces);
          }

      module _ {s1 : List ℕ} {byte1 laid1 : ℕ} (d : LaidText indentor s byte s1 byte1 laid1) where
        entry_low : EntryLow p top byte1 e₁
        entry_low = entry_still top byte p p (rows_same top p) top byte1 (omega arith) d.byte_up e₁ h.low

        pub lines_done : {t2 p2 : List ℕ} {top2 : ℕ} {mark2 : Bool} → Parts (e₁.intro.1 + 1) t p i top (laid1, length indentor) W₁.starts t2 p2 top2 → mark2 ≡ W₁.mark
            → RowIndented indentor exclude source t p s i mark top byte t2 p2 s1 mark2 top2 byte1 (Some laid1)
        lines_done k m =
            record {
              es = k.es;
              spliced = k.spliced;
              rows = k.rows;
              bytes = d.bytes;
              top_up = k.up;
              byte_up = d.byte_up;
              byte_in = d.byte_in;
              chunks =
                  k.chunks s1 byte1 d.at.low entry_low
                  ∙ ap₂ (λ (l : Text) (c : Chunk). split_lines l c W₁.starts) d.at.text (entry_same top byte p s p s1 (rows_same top p) d.bytes e₁ h.low)
                  ∙ sym chunks_then;
              mark_is = m ∙ sym (ap (λ (c : IndentedChunks). c.mark) closed_then);
              low = k.low byte1 d.at.low entry_low;
              indentor_at = d.at;
              rows_used = omega (arith, k.used, pieces_are);
              bytes_used = omega (arith, d.bytes_used, lines_bytes);
            }

      -- too many chunks
      pub lines_past : CHUNKS + 1 < count_of t + parts e₁.start W₁.starts → CHUNKS + 1 < count_of t + length (closed_row indentor exclude source t p s i mark).chunks
      lines_past y = omega (arith, y, ap length chunks_then, lines_parts indentor c₁ W₁.starts)

-- the indentor stays where it lies
laid_still : (indentor s s' : List ℕ) {byte byte' : ℕ} → take byte s' ≡ take byte s → byte ≤ byte' → (laid : Option ℕ) → IfSome laid (IndentorAt indentor s byte) → IfSome laid (IndentorAt indentor s' byte')
laid_still indentor s s' k h None x = tt
laid_still indentor s s' {byte} k h (Some laid) x = record { text = part_kept (length indentor) laid byte s s' k x.low ∙ x.text; low = omega (arith, x.low) }

-- one with a replacement
module _ {indentor source store t p s : List ℕ} {i top byte : ℕ} {laid : Option ℕ} (exclude : List ℕ) (mark : Bool) (h : RowReady indentor source store t p s i top byte laid) where
  abbrev e : Entry
  e = entry_at t i

  abbrev c : Chunk
  c = chunk_of p s (entry_at t i)

  module _ (some_is : e.text.0 ≡ NONE → ⊥) where
    edited_some : c.texts.edited_content ≡ some (bytes_at s e.text)
    edited_some = some_text s e.text some_is

    -- the same bytes in the lent store
    lent : bytes_at store e.text ≡ bytes_at s e.text
    lent = part_kept e.text.1 e.text.0 (length store) s store (take_all (length store) store (omega arith) ∙ sym h.store_front) (h.text_low some_is)

    pub replacement_ready : ReplacementReady store t s i byte
    replacement_ready =
        record {
          linked = h.row.linked;
          placed = h.row.placed;
          inside = h.text_low some_is;
          valid = subst Valid (content_or_is (some (bytes_at s e.text)) (span_text c.span source) edited_some ∙ sym lent) h.row.valid;
          byte_in = h.row.byte_in;
          narrow = h.row.narrow;
        }

    pub row_excluded : excluded exclude e.start ≡ true → RowIndented indentor exclude source t p s i mark top byte t p s mark top byte laid
    row_excluded x = row_stays exclude mark h.row mark (indented_excluded indentor exclude source mark c edited_some x)

    module _ (x : excluded exclude e.start ≡ false) where
      abbrev F : Indented
      F = indent_frag indentor mark (bytes_at store e.text)

      same_frag : F ≡ indent_frag indentor mark (bytes_at s e.text)
      same_frag = ap (indent_frag indentor mark) lent

      closed_replaced : closed_row indentor exclude source t p s i mark ≡ record { mark = F.mark; chunks = with_texts (edit F.text false) c ∷ [] }
      closed_replaced =
          indented_replaced indentor exclude source mark c edited_some x
          ∙ ap (λ (y : Indented). record { mark = y.mark; chunks = with_texts (edit y.text false) c ∷ [] }) (sym same_frag)

      more_bytes : length F.text ≤ sum chunk_bytes (closed_row indentor exclude source t p s i mark).chunks
      more_bytes = omega (arith, replaced_bytes indentor exclude source mark c edited_some x, ap (λ (y : Indented). length y.text) same_frag)

      pub row_replaced : {t' s' : List ℕ} {mark' : Bool} {byte' : ℕ} → Replaced indentor (bytes_at store e.text) t s i mark byte t' s' mark' byte'
          → RowIndented indentor exclude source t p s i mark top byte t' p s' mark' top byte' laid
      row_replaced {t'} {s'} {mark'} {byte'} d =
          let T : Text = F.text in
          let z : byte + 0 ≡ byte = omega arith in
          let ks : BytesKept byte s s' = record { len = ap length d.store_is ∙ length_over s byte T d.room; bytes = ap (take byte) d.store_is ∙ take_over s byte T h.row.byte_in } in
          let b : take (length T) (drop byte s') ≡ T = rw d.store_is (rw (z, append-nil T) at (over_part s byte [] T [] h.row.byte_in)) in
          let o : replacement_of s' (byte, length T) ≡ some T = some_text s' (byte, length T) (λ y. omega (arith, h.row.byte_in, h.row.narrow)) ∙ ap some b in
          let e' : Entry = with_text_at (byte, length T) e in
          let q : chunk_of p s' e' ≡ with_texts (edit T false) c =
          rw (run_same top byte p s p s' (rows_same top p) ks e.intro h.row.low.runs.intro, run_same top byte p s p s' (rows_same top p) ks e.outro h.row.low.runs.outro, o) in
          record {
            es = e' ∷ [];
            spliced = spliced_set d.set d.len;
            rows = rows_same top p;
            bytes = ks;
            top_up = omega arith;
            byte_up = omega (arith, d.end_is);
            byte_in = omega (arith, d.end_is, d.room, ks.len);
            chunks = ap (λ (y : Chunk). y ∷ []) q ∙ sym (ap (λ (y : IndentedChunks). y.chunks) closed_replaced);
            mark_is = d.mark_is ∙ sym (ap (λ (y : IndentedChunks). y.mark) closed_replaced);
            low =
                cons {x = e'}
                (record {
                  runs =
                      record {
                        intro = run_still top byte p p (rows_same top p) top byte' (omega arith) (omega (arith, d.end_is)) e.intro h.row.low.runs.intro;
                        outro = run_still top byte p p (rows_same top p) top byte' (omega arith) (omega (arith, d.end_is)) e.outro h.row.low.runs.outro;
                      };
                  text = λ _. omega (arith, d.end_is);
                })
                nil;
            indentor_at = laid_still indentor s s' ks.bytes (omega (arith, d.end_is)) laid h.row.indentor_at;
            rows_used = omega (arith, d.set.count);
            bytes_used = omega (arith, d.end_is, more_bytes);
          }

      pub replaced_short : length s < byte + length F.text → length s < byte + sum chunk_bytes (closed_row indentor exclude source t p s i mark).chunks
      replaced_short y = omega (arith, y, more_bytes)
