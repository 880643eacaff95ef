-- Laws of what `Rest` in specs/ defines.
use mathlib.Core.Path.{◌≡◌, refl, sym, ap, ap₂, ◌∙◌, subst}
use mathlib.Core.Bool.{Bool, true}
use mathlib.Core.List.{List, map}
use mathlib.Core.Logic.{◌⊎◌, inl, inr, ⊎_elim}
use Prim.Native.Nat.{ℕ, ◌+◌, ◌*◌, ◌≤◌, ◌<◌}
use native.Mathlib.Omega.{arith}
use lib.ListN.{length}
use Rattle.memory_layout.specs.Layout.{CHUNKS}
use Rattle.utf8.specs.Chars.{All, concat}
use Rattle.memory_table.specs.Order.{entry_at}
use Rattle.memory_table.specs.Sides.{side}
use Rattle.model.specs.Text.{Text, sum}
use Rattle.model.specs.Limits.{chunk_bytes}
use Rattle.model.specs.Indent.{Pieces, indent_pieces}
use Rattle.memory.specs.Layout.{Place, run_of, chunk_of, magic_string_of}
use Rattle.memory_texts.proofs.Texts.{run_length}
use Rattle.memory_used.specs.Below.{Below}
use Rattle.memory.proofs.Desks.{desk_same}
use Rattle.memory_texts.specs.Low.{DeskLow}
use Rattle.memory_texts.proofs.Low.{desk_in, run_same, run_still, entries_same, entries_still}
use Rattle.model_indent_closed.specs.Indent.{IndentedChunks}
use Rattle.indent_head_tail.specs.Run.{RunReady}
use Rattle.indent_head_tail.specs.Own.{Runs, OwnReady, OwnDone}
use Rattle.indent_chunks.specs.Walk.{closed_of}
use Rattle.indent_chunks.proofs.Walk.{Past, ChunksIndented}
use Rattle.model_preservation.proofs.Indent.{pieces_length}
use Rattle.indent_turns.specs.Rest.{RestReady, tail_part_of, RestDone}

module _ (indentor exclude source pieces store t p s : List ℕ) (mark : Bool) (top byte : ℕ) (w : RestReady source pieces store t p s top byte) where
  abbrev closed : IndentedChunks
  closed = closed_of indentor exclude source t p s mark

  abbrev tail : Pieces
  tail = tail_part_of indentor exclude source pieces store t p s mark

  -- the chunks pass a limit
  pub rest_chunks : Past closed.chunks byte (length s) → (t' p' s' : List ℕ) → RestDone indentor exclude source pieces store t p s mark byte t' p' s' 13
  rest_chunks y t' p' s' =
      record {
        zero_or = inr refl;
        done = λ e. absurd (omega arith);
        past = λ _.
            ⊎_elim {C = (CHUNKS < length closed.chunks) ⊎ (length s < byte + (sum chunk_bytes closed.chunks + length (concat tail.pieces)))}
            (λ (a : CHUNKS < length closed.chunks). inl a) (λ (b : length s < byte + sum chunk_bytes closed.chunks). inr (omega arith)) y;
      }

  module _ {t1 p1 s1 : List ℕ} {mark1 : Bool} {top1 byte1 : ℕ} (k : ChunksIndented indentor exclude source t p s mark top byte t1 p1 s1 mark1 top1 byte1) where
    -- row 0's runs are as they were
    head_at : (entry_at t1 0).intro ≡ (entry_at t 0).intro
    head_at = ap (λ (x : Runs). x.0) k.desk

    tail_at : side true (entry_at t1 0) ≡ (entry_at t 0).outro
    tail_at = ap (λ (x : Runs). x.1) k.desk

    tail_rows : (top1 + (entry_at t 0).outro.1) * 2 ≤ length p1
    tail_rows = omega (arith, k.rows_used, k.rows.len, w.few, w.long_pieces)

    pub tail_ready : OwnReady true pieces store t1 p1 s1 top1 byte1
    tail_ready =
        record {
          linked = k.linked;
          run =
              subst (λ (x : Place). RunReady pieces store x.0 x.1 p1 s1 top1 byte1) (sym tail_at)
              (record {
                inside = w.inside;
                valid = w.valid;
                rows = tail_rows;
                rows_narrow = omega (arith, k.rows.len, w.long_pieces);
                byte_in = k.byte_in;
                narrow = omega (arith, k.bytes.len, w.long_store);
              });
        }

    -- the tail's texts
    tail_is : indent_pieces indentor mark1 (run_of pieces store (side true (entry_at t1 0))) ≡ tail
    tail_is = ap₂ (λ (m : Bool) (x : Place). indent_pieces indentor m (run_of pieces store x)) k.mark_is tail_at

    pub rest_tail : length s1 < byte1 + length (concat (indent_pieces indentor mark1 (run_of pieces store (side true (entry_at t1 0)))).pieces)
        → (t' p' s' : List ℕ) → RestDone indentor exclude source pieces store t p s mark byte t' p' s' 13
    rest_tail e t' p' s' =
        record {
          zero_or = inr refl;
          done = λ e. absurd (omega arith);
          past = λ _. inr (omega (arith, e, ap (λ (x : Pieces). length (concat x.pieces)) tail_is, k.bytes_used, k.bytes.len));
        }

    module _ {t2 p2 s2 : List ℕ} {mark2 : Bool} {byte2 : ℕ} (o : OwnDone true indentor mark1 (run_of pieces store (side true (entry_at t1 0))) t1 p1 s1 top1 byte1 t2 p2 s2 mark2 byte2) where
      ts : List Text
      ts = (indent_pieces indentor mark1 (run_of pieces store (side true (entry_at t1 0)))).pieces

      few_rows : length ts ≡ (entry_at t 0).outro.1
      unfolding ts
      few_rows =
          pieces_length indentor mark1 (run_of pieces store (side true (entry_at t1 0)))
          ∙ ap (λ (x : Place). length (run_of pieces store x)) tail_at
          ∙ run_length pieces store (entry_at t 0).outro.0 (entry_at t 0).outro.1

      new_head : (entry_at t2 0).intro ≡ (entry_at t 0).intro
      new_head = ap (λ (x : Runs). x.0) o.desk.desk ∙ head_at

      new_tail : (entry_at t2 0).outro ≡ (top1, length ts)
      new_tail = ap (λ (x : Runs). x.1) o.desk.desk ∙ ap (λ (n : ℕ). (top1, n)) (ap (λ (x : Place). x.1) tail_at ∙ sym few_rows)

      -- the head stays
      head_1 : Below p1 byte1 top1 (entry_at t 0).intro
      head_1 = run_still top byte p p1 k.rows top1 byte1 k.top_up k.byte_up (entry_at t 0).intro w.head

      abbrev top2 : ℕ
      top2 = top1 + length ts

      up : byte1 ≤ byte2
      up = omega (arith, o.put.byte_is)

      low : DeskLow t2 p2 top2 byte2
      unfolding ts
      low =
          record {
            linked = o.desk.linked;
            desk =
                record {
                  intro = subst (Below p2 byte2 top2) (sym new_head) (run_still top1 byte1 p1 p2 o.put.rows top2 byte2 (omega arith) up (entry_at t 0).intro head_1);
                  outro = subst (Below p2 byte2 top2) (sym new_tail) o.put.low;
                };
            chunks = subst (All _) (sym o.desk.chunks) (entries_still top1 byte1 p1 p2 o.put.rows top2 byte2 (omega arith) up k.low);
          }

      pub rest_done : RestDone indentor exclude source pieces store t p s mark byte t2 p2 s2 0
      unfolding magic_string_of ts
      rest_done =
          record {
            zero_or = inl refl;
            done = λ _.
                record {
                  readable = desk_in p2 s2 top2 byte2 (omega (arith, tail_rows, few_rows, o.put.rows.len)) o.put.byte_in t2 low;
                  desk =
                      desk_same source
                      (ap (run_of p2 s2) new_head
                      ∙ run_same top1 byte1 p1 s1 p2 s2 o.put.rows o.put.bytes (entry_at t 0).intro head_1
                      ∙ run_same top byte p s p1 s1 k.rows k.bytes (entry_at t 0).intro w.head)
                      (ap (run_of p2 s2) new_tail ∙ o.put.run ∙ ap (λ (x : Pieces). x.pieces) tail_is)
                      (ap (map (chunk_of p2 s2)) o.desk.chunks ∙ entries_same top1 byte1 p1 s1 p2 s2 o.put.rows o.put.bytes k.low ∙ k.chunks);
                };
            past = λ e. absurd (omega arith);
          }
