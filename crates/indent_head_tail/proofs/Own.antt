-- Laws of what `Own` in specs/ defines.
use mathlib.Core.Path.{◌≡◌, refl, sym, ap, ◌∙◌, subst}
use mathlib.Core.Bool.{Bool}
use mathlib.Core.List.{List, [], ◌++◌, append-nil}
use Prim.Native.Nat.{ℕ, ◌+◌, ◌-◌, ◌≤◌, ◌<◌}
use native.Mathlib.Omega.{arith}
use native.Mathlib.Nat.{add-zero}
use lib.ListN.{length, take}
use Rattle.utf8.specs.Chars.{concat}
use Rattle.memory_table.specs.Table.{row_at, Put}
use Rattle.memory_table.specs.Order.{entry_at}
use Rattle.memory_table.specs.Sides.{side}
use Rattle.model.specs.Text.{Text}
use Rattle.model.specs.Indent.{indent_pieces}
use Rattle.memory.specs.Layout.{Place, bytes_at, piece_at, run_of}
use Rattle.memory_texts.specs.Over.{over}
use Rattle.memory_texts.proofs.Over.{length_over, take_over, over_all}
use Rattle.memory_texts.specs.Carry.{Carried, RoomOf}
use Rattle.memory_texts.proofs.Carry.{carried_rows, carried_bytes, carried_run, carried_below, kept_piece}
use Rattle.memory_list.proofs.Split.{desk_set}
use Rattle.indent_head_tail.specs.Run.{RunReady}
use Rattle.indent_head_tail.proofs.Run.{RunIndented}
use Rattle.indent_head_tail.specs.Own.{RunPut, moved, OwnReady, OwnDone, LayReady, LaidText}
use Rattle.std.specs.Prelude.{Option}

-- ---- a run put into tables that only grow

module _ {ts : List Text} {p s : List ℕ} {byte top : ℕ} {p' s' : List ℕ} {byte' top' : ℕ} (c : Carried ts p s byte top p' s' byte' top') (r : RoomOf ts p s byte top) where
  whole : ts ≡ [] ++ (ts ++ [])
  whole = sym (append-nil ts)

  c_whole : Carried ([] ++ (ts ++ [])) p s byte top p' s' byte' top'
  c_whole = subst (λ (l : List Text). Carried l p s byte top p' s' byte' top') whole c

  r_whole : RoomOf ([] ++ (ts ++ [])) p s byte top
  r_whole = subst (λ (l : List Text). RoomOf l p s byte top) whole r

  pub run_put : RunPut ts p s byte top p' s' byte'
  run_put =
      let z : top + 0 ≡ top = add-zero top in
      let lp = carried_rows c r.rows_in in
      let ls = carried_bytes c r.bytes_in in
      record {
        rows = record { len = lp; rows = kept_piece c r };
        bytes = record { len = ls; bytes = ap (take byte) c.store_is ∙ take_over s byte (concat ts) (omega (arith, r.bytes_in)) };
        run = subst (λ (k : ℕ). run_of p' s' (k, length ts) ≡ ts) z (carried_run [] ts [] c_whole r_whole);
        low = λ k h.
            let b = subst (λ (j : ℕ). (j + k < top') × ((piece_at p' (j + k)).0 + (piece_at p' (j + k)).1 ≤ byte')) z (carried_below [] ts [] c_whole r_whole k h) in
            (omega (arith, b.0, c.row_is), b.1);
        byte_is = c.byte_is;
        byte_in = omega (arith, c.byte_is, r.bytes_in, ls);
      }

-- ---- the head or the tail

module _ (outro : Bool) (indentor : Text) (mark : Bool) (pieces store t p s : List ℕ) (top byte : ℕ) (h : OwnReady outro pieces store t p s top byte)
    (q : Place) (run_is : q ≡ side outro (entry_at t 0)) where
  pub own_run_ready : RunReady pieces store q.0 q.1 p s top byte
  own_run_ready = subst (λ (x : Place). RunReady pieces store x.0 x.1 p s top byte) (sym run_is) h.run

  -- the texts are too long, by row 0's name for the run
  pub own_short : length s < byte + length (concat (indent_pieces indentor mark (run_of pieces store (q.0, q.1))).pieces)
      → length s < byte + length (concat (indent_pieces indentor mark (run_of pieces store (side outro (entry_at t 0)))).pieces)
  own_short l = subst (λ (x : Place). length s < byte + length (concat (indent_pieces indentor mark (run_of pieces store x)).pieces)) run_is l

  module _ {p' s' : List ℕ} {mark' : Bool} {byte' : ℕ} (d : RunIndented indentor mark (run_of pieces store (q.0, q.1)) p s byte top p' s' mark' byte') where
    -- the run by row 0's name
    at_row : RunIndented indentor mark (run_of pieces store (side outro (entry_at t 0))) p s byte top p' s' mark' byte'
    at_row = subst (λ (x : Place). RunIndented indentor mark (run_of pieces store x) p s byte top p' s' mark' byte') run_is d

    pub own_done : (t' : List ℕ) → Put t t' 0 (moved outro top (row_at t 0)) → length t' ≡ length t
        → OwnDone outro indentor mark (run_of pieces store (side outro (entry_at t 0))) t p s top byte t' p' s' mark' byte'
    own_done t' u m =
        record {
          desk = desk_set t t' (moved outro top (row_at t 0)) h.linked u refl refl refl m;
          len = m;
          put = run_put at_row.done at_row.room;
          mark_is = at_row.mark_is;
        }

-- ---- the indentor

module _ {indentor s : List ℕ} {byte : ℕ} {laid : Option ℕ} (w : LayReady indentor s byte laid) where
  pub laid_now : length indentor ≤ length s - byte → {s' : List ℕ} → s' ≡ over s byte indentor → LaidText indentor s byte s' (byte + length indentor) byte
  laid_now l {s'} x =
      let len : length s' ≡ length s = ap length x ∙ length_over s byte indentor (omega (arith, w.byte_in)) in
      record {
        bytes = record { len = len; bytes = ap (take byte) x ∙ take_over s byte indentor w.byte_in };
        byte_up = omega arith;
        byte_in = omega (arith, w.byte_in);
        at = record { text = ap (λ (y : List ℕ). bytes_at y (byte, length indentor)) x ∙ over_all s byte indentor w.byte_in; low = omega arith };
        bytes_used = omega arith;
      }
