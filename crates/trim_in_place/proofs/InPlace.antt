-- The trims on the lent tables themselves: new piece rows and a new text stand above all that the desk uses, and what is in use then ends where the trim stopped writing.
use mathlib.Core.Path.{◌≡◌, refl, sym, ap, ◌∙◌, subst}
use mathlib.Core.Bool.{Bool, true}
use mathlib.Core.List.{List, []}
use Prim.Native.Nat.{ℕ, ◌+◌, ◌*◌, ◌≤◌}
use native.Mathlib.Omega.{arith}
use lib.ListN.{length, take, drop, take-append-drop}
use lib.Seq.{length-take-le}
use Rattle.utf8.specs.Chars.{All, nil, cons}
use Rattle.memory_table.specs.Order.{Entry, count_of}
use Rattle.model.specs.MagicString.{MagicString, ok}
use Rattle.model.specs.Limits.{within, piece_count}
use Rattle.memory_layout.specs.Layout.{NONE}
use Rattle.memory_layout.specs.Refusals.{number_of}
use Rattle.memory.specs.Layout.{magic_string_of}
use Rattle.memory.specs.WellFormed.{limits_of, RunsIn, Readable, WellFormed}
use Rattle.memory.proofs.Desks.{chunk_count, source_of, keeps_within, keeps_desk}
use Rattle.memory_used.specs.declared.Used.{Used}
use Rattle.memory_used.specs.declared.Outcome.{Outcome}
use Rattle.memory_used.specs.Below.{EntryBelow}
use Rattle.memory_used.specs.Above.{Above}
use Rattle.memory_used.proofs.Below.{entry_below, entries_below}
use Rattle.edit_scratch.proofs.Tables.{may_write_0}
use Rattle.edit_in_place.proofs.InPlace.{ran_in_place}
use Rattle.edit_room_above.proofs.Finishing.{bytes_below}
use Rattle.memory_texts.specs.Low.{RunsLow, EntryLow, DeskLow}
use Rattle.trim_steps.specs.Both.{SidesReady, SidesTrimmed}
use Rattle.trim_steps.proofs.Both.{sides_ready, trimmed_readable}
use Rattle.trim_scratch.proofs.Counts.{trim_sides_pieces, trim_sides_chunks}
use Rattle.trim_scratch.proofs.Call.{desk_low, plain_of, pieces_any}
use Rattle.trim_scratch.specs.Call.{TrimRan}
use Rattle.trim_in_place.specs.InPlace.{TrimRoom, Trimmed}

-- ---- a desk below a row and a byte is read from there alone

module _ (p s : List ℕ) (row byte : ℕ) (hr : row * 2 ≤ length p) (hb : byte ≤ length s) where
  all_below : {es : List Entry} → All (EntryLow p row byte) es → All (EntryBelow p byte row) es
  all_below nil = nil
  all_below (cons h k) = cons (record { intro = h.runs.intro; outro = h.runs.outro; text = h.text }) (all_below k)

  -- the head and the tail, as an entry with no replacement
  own_below : (e : Entry) → RunsLow p row byte e → RunsIn (take (row * 2) p) (take byte s) e
  own_below e h =
      let own : Entry = record { start = 0; end = 0; frozen = 0; intro = e.intro; outro = e.outro; text = (NONE, 0) } in
      let x = entry_below p s byte row hr hb own (record { intro = h.intro; outro = h.outro; text = λ n. absurd (n refl) }) in
      record { intro = x.runs.intro; outro = x.runs.outro }

  low_read : (t : List ℕ) → DeskLow t p row byte → Readable t (take (row * 2) p) (take byte s)
  low_read t h = record { linked = h.linked; desk = own_below _ h.desk; chunks = entries_below p s byte row hr hb (all_below h.chunks) }

module _ {source t p s : List ℕ} {l : Used} (w : WellFormed source t p s) (a : Above t p s l) (rm : TrimRoom (length p) (length s) l (length source)) where
  -- new rows from `top` on and new bytes from `byte` on stand above all that is in use
  pub top_ready : {top byte : ℕ} → top ≡ l.row → byte ≡ l.byte → SidesReady source t p s top byte
  top_ready {top} {byte} row_is byte_is =
      sides_ready {wide = l.pieces}
      (record {
        low =
            subst (λ (x : List ℕ). DeskLow t x top byte) (take-append-drop (l.row * 2) p)
            (desk_low (take (l.row * 2) p) (take l.byte s) (drop (l.row * 2) p) top byte
            (omega (arith, length-take-le (l.row * 2) p a.row)) (omega (arith, length-take-le l.byte s a.byte)) t a.readable);
        formed = w.desk.formed;
        few = omega (arith, pieces_any source t p s, a.pieces);
        rows = omega (arith, rm.rows, w.sized.pieces);
        narrow = omega (arith, w.sized.pieces);
        bytes = omega (arith, plain_of w, rm.places, w.sized.store);
        small = omega (arith, w.sized.store);
      })
      (omega (arith, rm.rows, w.sized.pieces))

  module _ {both front : Bool} {pattern : ℕ} {t' p' s' : List ℕ} {row byte : ℕ} (x : SidesTrimmed both front pattern source t p s t' p' s' row byte) where
    abbrev m : MagicString
    m = magic_string_of source t p s

    -- no piece more, and all that is in use lies below where the trim stopped writing
    top_above : {u : Used} → u.pieces ≡ l.pieces → u.row ≡ row → u.byte ≡ byte → Above t' p' s' u
    top_above {u} pieces_are row_is byte_is =
        record {
          pieces = omega (arith, pieces_any source t' p' s', ap piece_count x.desk, trim_sides_pieces both front pattern m, pieces_any source t p s, a.pieces);
          few = omega (arith, a.few, x.pieces_len);
          readable = rw (row_is, byte_is) (low_read p' s' row byte x.row_in x.byte_in t' x.low);
          row = omega (arith, x.row_in);
          byte = omega (arith, x.byte_in);
        }

    -- 13 cannot arise: the texts lie apart inside the store
    left_within : within (limits_of t p s) (magic_string_of [] t' p' s') ≡ true
    left_within =
        let k = keeps_desk w in
        let u : Used = record { pieces = l.pieces; row = row; byte = byte } in
        keeps_within
        (record {
          source = rw (source_of [] t' p' s') (omega arith);
          chunks = omega (arith, chunk_count source t' p' s', chunk_count [] t' p' s', ap (λ (d : MagicString). length d.chunks) x.desk, trim_sides_chunks both front pattern m, k.chunks);
          pieces = omega (arith, pieces_any source t' p' s', ap piece_count x.desk, trim_sides_pieces both front pattern m, k.pieces);
          bytes = omega (arith, bytes_below (x.apart w.disjoint) (top_above {u = u} refl refl refl), x.byte_in, x.store_len);
        })

    -- and as many chunks as before
    left_count : count_of t' ≡ count_of t + 0
    left_count =
        omega (arith, chunk_count source t p s, chunk_count source t' p' s', ap (λ (d : MagicString). length d.chunks) x.desk, trim_sides_chunks both front pattern m)

    left_ran : TrimRan both front pattern source t p s t' p' s' 0 0
    left_ran e h q i =
        ran_in_place w h (record { readable = trimmed_readable x; result = q ∙ ap ok (sym x.desk); cuts = left_count }) (may_write_0 e i)
        (record { chunks = x.rows_len; pieces = x.pieces_len; store = x.store_len })
        (x.each w.each) (x.apart w.disjoint) left_within

    -- what is answered, for a row and a byte where the trim stopped writing
    pub top_leaves : {pieces₁ row₁ byte₁ : ℕ} {o : Outcome} → Trimmed pieces₁ row₁ byte₁ o → pieces₁ ≡ l.pieces → row₁ ≡ row → byte₁ ≡ byte
        → TrimRan both front pattern source t p s t' p' s' (number_of o.status) o.cuts × Above t' p' s' o.used
    top_leaves {o = o} h n r b =
        (rw (h.number, h.cuts) left_ran, top_above {u = o.used} (h.pieces_are ∙ n) (h.row_is ∙ r) (h.byte_is ∙ b))
