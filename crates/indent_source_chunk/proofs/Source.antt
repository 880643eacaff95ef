-- A line start at the chunk's own start, then the cuts behind it; or the first one inside.
use mathlib.Core.Path.{◌≡◌, sym, ap, ◌∙◌, subst}
use mathlib.Core.Bool.{Bool, true, false}
use mathlib.Core.List.{List, ◌∷◌}
use Prim.Native.Nat.{ℕ, suc, ◌+◌, ◌-◌, ◌≤◌}
use native.Mathlib.Omega.{arith}
use lib.ListN.{length}
use Rattle.memory_table.specs.Order.{Entry, entry_at}
use Rattle.memory_table.specs.Sides.{side}
use Rattle.model.specs.Chunk.{Chunk}
use Rattle.model.specs.Indent.{Starts, then_start}
use Rattle.memory.specs.Layout.{Place, bytes_at, chunk_of}
use Rattle.memory_list.specs.Split.{RowSet}
use Rattle.memory_texts.specs.Low.{EntryLow}
use Rattle.model_indent_closed.specs.Indent.{split_lines}
use Rattle.model_indent_closed.proofs.Indent.{split_lines_at_start}
use Rattle.edit_room_above.specs.Run.{TopRoom}
use Rattle.edit_insert_row.specs.Added.{RowAdded}
use Rattle.std.specs.Prelude.{Option, Some, None}
use Rattle.indent_cuts.specs.declared.Cut.{Cut}
use Rattle.indent_cuts.specs.Splice.{with_intro_at}
use Rattle.indent_cuts.proofs.Splice.{set_then, begun_set, begun}
use Rattle.indent_cuts.specs.Lines.{lines_from, parts, LinesReady, Parts, PartsDone}
use Rattle.indent_cuts.proofs.Lines.{parts_at_start, begun_chunk, begun_low}
use Rattle.indent_source_chunk.specs.Source.{SourceReady}

module _ {exclude source t p : List ℕ} {i start x end top : ℕ} (h : SourceReady exclude source t p i start x end top) where
  -- ---- a line start at the chunk's own start

  pub own_room : TopRoom (side false (entry_at t i)) p top
  own_room = record { under = λ g. omega (arith, h.under ((entry_at t i).intro.1 - 1) (omega arith)); rows_in = omega (arith, h.piece_rows) }

  module _ (e : x ≡ start) {front : Bool} {y : Place} {t1 p1 : List ℕ} {above : ℕ} (d : RowAdded false front y top t p t1 p1 i above) (m : length t1 ≡ length t) where
    set : RowSet t t1 i (with_intro_at (d.first, suc (entry_at t i).intro.1) (entry_at t i))
    set = begun_set d h.linked h.placed m

    pub own_above : above ≤ top + ((entry_at t i).intro.1 + 1)
    own_above = omega (arith, d.above_is, d.longer.to)

    pub own_lines : LinesReady source t1 p1 i (x + 1) end above
    own_lines =
        record {
          linked = set.linked;
          placed = record { us = h.placed.us; bs = h.placed.bs; place = set.order_is ∙ h.placed.place };
          after = omega (arith, ap (λ (z : Entry). z.start) set.here, h.at_start);
          up_to = omega (arith, h.below);
          inside = h.inside;
          rows = omega (arith, h.chunk_rows);
          narrow = omega (arith, h.narrow_chunks);
          piece_rows = omega (arith, h.piece_rows, own_above, set.count, d.longer.length_is);
          narrow_pieces = omega (arith, h.narrow_pieces, d.longer.length_is);
        }

    own_parts : front ≡ true → {l t2 p2 : List ℕ} {top2 : ℕ} → Parts 0 t1 p1 i above y l t2 p2 top2 → Parts ((entry_at t i).intro.1 + 1) t p i top y (x ∷ l) t2 p2 top2
    own_parts f {l} {t2} {p2} {top2} k =
        let b = begun d f in
        record {
          es = k.es;
          spliced = set_then set m k.spliced;
          rows = record { len = k.rows.len ∙ b.rows.len; rows = λ j g. k.rows.rows j (omega (arith, b.up)) ∙ b.rows.rows j g };
          up = omega (arith, k.up, b.up);
          used = omega (arith, k.used, own_above, set.count);
          low = λ byte g w. k.low byte g (subst (EntryLow p1 above byte) (sym set.here) (begun_low (entry_at t i) b byte w g));
          chunks = λ s byte g w.
              k.chunks s byte g (subst (EntryLow p1 above byte) (sym set.here) (begun_low (entry_at t i) b byte w g))
              ∙ ap (λ (c : Chunk). split_lines (bytes_at s y) c l) (ap (chunk_of p1 s) set.here ∙ begun_chunk (entry_at t i) b byte w s)
              ∙ sym (split_lines_at_start (bytes_at s y) (chunk_of p s (entry_at t i)) x l (omega (arith, h.at_start)));
        }

    pub own_done : front ≡ true → (w : Starts) (t2 p2 : List ℕ) (r : Option Cut) → PartsDone 0 t1 p1 i above y w t2 p2 r → PartsDone ((entry_at t i).intro.1 + 1) t p i top y (then_start x w) t2 p2 r
    own_done f w t2 p2 None k =
        omega (
          arith,
          k,
          set.count,
          ap (λ (z : Entry). parts z.start w.starts) set.here,
          parts_at_start (entry_at t i).start x w.starts (omega (arith, h.at_start)),
        )
    own_done f w t2 p2 (Some c) k = (own_parts f k.0, k.1)

  -- ---- the first one inside

  pub inner_done : (y : Place) (t2 p2 : List ℕ) (r : Option Cut) → PartsDone 0 t p i top y (lines_from exclude source true x end) t2 p2 r
      → PartsDone ((entry_at t i).intro.1 + 1) t p i top y (then_start x (lines_from exclude source false (x + 1) end)) t2 p2 r
  inner_done y t2 p2 r k = more (then_start x (lines_from exclude source false (x + 1) end)) r (subst (λ (w : Starts). PartsDone 0 t p i top y w t2 p2 r) h.begins k)
    where
      more : (w : Starts) (r : Option Cut) → PartsDone 0 t p i top y w t2 p2 r → PartsDone ((entry_at t i).intro.1 + 1) t p i top y w t2 p2 r
      more w None d = d
      more w (Some c) d = let q = d.0 in (record { es = q.es; spliced = q.spliced; rows = q.rows; up = q.up; used = omega (arith, q.used); low = q.low; chunks = q.chunks }, d.1)
