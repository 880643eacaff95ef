-- Where the rows and texts of a desk lie apart, those of the trimmed desk do: it uses what the desk used, and above that only what was written, once.
use mathlib.Core.Path.{◌≡◌, refl, ap}
use mathlib.Core.Bool.{Bool, true, false}
use mathlib.Core.List.{List}
use Prim.Native.Nat.{ℕ, ◌≤◌, ◌<◌}
use native.Mathlib.Omega.{arith}
use native.Mathlib.Decide.{dec_lt}
use Rattle.utf8.specs.Chars.{All, nil, cons}
use Rattle.memory_table.specs.Order.{Entry, entry_at, entries}
use Rattle.model.specs.Text.{sum}
use Rattle.memory.specs.Layout.{Place}
use Rattle.memory.specs.WellFormed.{among, piece_uses, run_uses, list_uses, byte_uses, Disjoint}
use Rattle.memory_used.specs.Below.{Below}
use Rattle.memory.proofs.Desks.{among_out}
use Rattle.memory_texts.specs.Low.{RowsKept, RunsLow, EntryLow, DeskLow}
use Rattle.trim_chunk.specs.Row.{near_of, far_of, with_side_places}
use Rattle.trim_chunk.specs.Uses.{NoMore}
use Rattle.trim_chunk.proofs.Uses.{no_more_same, among_most, rows_above, row_above, lists_above, same_fewer}
use Rattle.trim_chunks.specs.Apart.{ChunksApart}

-- ---- rows below what was written

module _ (p p' : List ℕ) (top byte : ℕ) where
  none_above : (j : ℕ) → top ≤ j → {es : List Entry} → All (EntryLow p top byte) es → sum (piece_uses j) es ≡ 0
  none_above j l nil = refl
  none_above j l (cons {x = e} h k) = omega (arith, row_above p top byte e h.runs j l, none_above j l k)

  all_fewer : RowsKept top p p' → (b : ℕ) → {es : List Entry} → All (EntryLow p top byte) es → sum (byte_uses p' b) es ≤ sum (byte_uses p b) es
  all_fewer q b nil = omega arith
  all_fewer q b (cons {x = e} h k) = omega (arith, (same_fewer p p' top byte e q h.runs).bytes b, all_fewer q b k)

-- ---- the head and the tail, one of them trimmed

module _ (p p' : List ℕ) (top byte : ℕ) (kept : RowsKept top p p') (e : Entry) (near x : Place) where
  module _ (front : Bool) (low : RunsLow p top byte e) (n : NoMore p p' top near (near_of front e)) where
    far_below : (f : Bool) → Below p byte top (far_of f e)
    far_below true = low.outro
    far_below false = low.intro

    far_same : NoMore p p' top (far_of front e) (far_of front e)
    far_same = no_more_same p p' top byte (far_of front e) kept (far_below front)

    sides_rows : (f : Bool) (j : ℕ) → among near j ≤ among (near_of f e) j → piece_uses j (with_side_places f e near (far_of f e) x) ≤ piece_uses j e
    sides_rows true j h = omega arith
    sides_rows false j h = omega arith

    sides_above : (f : Bool) (j : ℕ) → among (far_of f e) j ≡ 0 → piece_uses j (with_side_places f e near (far_of f e) x) ≤ among near j
    sides_above true j h = omega arith
    sides_above false j h = omega arith

    sides_bytes : (f : Bool) (b : ℕ) → run_uses p' b near ≤ run_uses p b (near_of f e) → run_uses p' b (far_of f e) ≤ run_uses p b (far_of f e) →
        list_uses p' b (with_side_places f e near (far_of f e) x) ≤ list_uses p b e
    sides_bytes true b h k = omega arith
    sides_bytes false b h k = omega arith

    module _ (e' : Entry) (row : e' ≡ with_side_places front e near (far_of front e) x) where
      own_rows : (j : ℕ) → j < top → piece_uses j e' ≤ piece_uses j e
      own_rows j h = omega (arith, ap (piece_uses j) row, sides_rows front j (n.rows j h))

      own_above : (j : ℕ) → top ≤ j → piece_uses j e' ≤ among near j
      own_above j h = omega (arith, ap (piece_uses j) row, sides_above front j (rows_above p top byte (far_of front e) (far_below front) j h))

      own_bytes : (b : ℕ) → list_uses p' b e' ≤ list_uses p b e
      own_bytes b = omega (arith, ap (list_uses p' b) row, sides_bytes front b (n.bytes b) (far_same.bytes b))

-- ---- the desk

module _ (front : Bool) (t t' p p' : List ℕ) (top byte : ℕ) (near x : Place) (low : DeskLow t p top byte) (kept : RowsKept top p p') (n : NoMore p p' top near (near_of front (entry_at t 0)))
    (row : entry_at t' 0 ≡ with_side_places front (entry_at t 0) near (far_of front (entry_at t 0)) x) (d : Disjoint t p) where
  abbrev e : Entry
  e = entry_at t 0

  abbrev e' : Entry
  e' = entry_at t' 0

  -- the chunks stay
  pub own_apart : entries t' ≡ entries t → Disjoint t' p'
  own_apart s =
      record {
        pieces = λ j.
            elim (dec_lt j top) [
              | yes h ↦ omega (arith, d.pieces j, own_rows p p' top byte kept e near x front low.desk n e' row j h, ap (sum (piece_uses j)) s)
              | no h ↦ omega (
                arith,
                own_above p p' top byte kept e near x front low.desk n e' row j (omega arith),
                among_most near j,
                ap (sum (piece_uses j)) s,
                none_above p p' top byte j (omega arith) low.chunks,
              )
            ];
        bytes = λ b. omega (arith, d.bytes b, own_bytes p p' top byte kept e near x front low.desk n e' row b, ap (sum (byte_uses p' b)) s, all_fewer p p' top byte kept b low.chunks);
      }

  -- nothing is left of the head or the tail, and the chunks are trimmed
  pub chunks_apart : near.1 ≡ 0 → (t1 : List ℕ) → entries t1 ≡ entries t → ChunksApart p p' top byte t1 t' → Disjoint t' p'
  chunks_apart z t1 s c =
      record {
        pieces = λ j.
            elim (dec_lt j top) [
              | yes h ↦ omega (arith, d.pieces j, own_rows p p' top byte kept e near x front low.desk n e' row j h, c.rows_below j h, ap (sum (piece_uses j)) s)
              | no h ↦ omega (
                arith,
                own_above p p' top byte kept e near x front low.desk n e' row j (omega arith),
                among_out near.0 near.1 j
                    (λ u v. omega arith),
                c.rows_above j (omega arith),
              )
            ];
        bytes = λ b.
            let o = own_bytes p p' top byte kept e near x front low.desk n e' row b in
            elim (dec_lt b byte) [
              | yes h ↦ omega (arith, d.bytes b, o, c.bytes_below b h, ap (sum (byte_uses p b)) s)
              | no h ↦ omega (arith, o, lists_above p top byte e low.desk b (omega arith), c.bytes_above b (omega arith))
            ];
      }
