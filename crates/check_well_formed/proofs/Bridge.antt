-- The facts by row number are exactly `WellFormed`, which speaks of the list order and of the desk: `rows_formed` and `formed_rows`.
use mathlib.Core.Path.{◌≡◌, refl, ap, sym, subst, ◌∙◌}
use mathlib.Core.Bool.{true}
use mathlib.Core.List.{List, [], ◌∷◌, map}
use Prim.Native.Nat.{ℕ, ◌+◌, ◌*◌, ◌/◌, ◌≤◌}
use native.Mathlib.Omega.{arith}
use lib.ListN.{length, length-map}
use Rattle.utf8.specs.Rfc3629.{utf8}
use Rattle.utf8.proofs.Texts.{utf8_nil}
use Rattle.utf8.proofs.Boundaries.{between_past}
use Rattle.memory_table.specs.Ring.{Each}
use Rattle.memory_table.specs.Order.{entry_at, order, count_of, Linked}
use Rattle.memory_table.proofs.Order.{order_length}
use Rattle.model.specs.Text.{sum}
use Rattle.model.specs.Chunk.{Chunk, Span}
use Rattle.model.specs.Limits.{chunk_pieces, piece_count}
use Rattle.model.specs.WellFormed.{covers, Tiled, Covered, Formed}
use Rattle.memory.specs.Layout.{Place, bytes_at, piece_at, run_of, chunk_of, magic_string_of}
use Rattle.memory.specs.WellFormed.{Readable, piece_uses, byte_uses, Disjoint, WellFormed}
use Rattle.memory.proofs.Desks.{length_tabulate, chunk_count, source_of, keeps_within, keeps_desk}
use Rattle.memory_counting.specs.Counts.{sum_to, indicator}
use Rattle.memory_counting.proofs.Sums.{sum_same}
use Rattle.memory_counting.specs.Once.{In}
use Rattle.memory_counting.proofs.Once.{linked_once}
use Rattle.check_spans.specs.Spans.{chunk_starts_of, ends_of, Empty, Spans, Edges}
use Rattle.check_spans.specs.Spans as spans
use Rattle.memory_used.proofs.Below.{run_inside, entry_inside, inside_run, inside_entry}
use Rattle.check_marks.specs.Marks.{entry_piece_count, piece_total}
use Rattle.check_texts_apart.specs.Places.{Placed}
use Rattle.check_texts_valid.specs.Valid.{TextsValid}
use Rattle.check_well_formed.specs.Rows.{Chunked}
use Rattle.check_well_formed.proofs.Rows.{ByRows}
use Rattle.check_well_formed.proofs.Chunks.{chunks_of, sum_entries, all_entries, entries_all, sum_chunks, all_chunks, chunks_all, length_chunks}
use Rattle.memory_counting.proofs.Bytes.{bytes_fit}

-- ── the pieces, counted ──
run_count : (p s : List ℕ) (r : Place) → length (run_of p s r) ≡ r.1
unfolding run_of
run_count p s r = length_tabulate (λ k. bytes_at s (piece_at p (r.0 + k))) r.1

pub count_is : (source t p s : List ℕ) → Linked t → piece_count (magic_string_of source t p s) ≡ piece_total t (count_of t)
unfolding magic_string_of
count_is source t p s l =
    let c : sum chunk_pieces (chunks_of t p s) ≡ sum_to (λ k. entry_piece_count (entry_at t (k + 1))) (count_of t) =
    sum_chunks t l p s chunk_pieces
    ∙ sum_same (λ k. chunk_pieces (chunk_of p s (entry_at t (k + 1)))) (λ k. entry_piece_count (entry_at t (k + 1))) (count_of t)
    (λ k h. omega (arith, run_count p s (entry_at t (k + 1)).intro, run_count p s (entry_at t (k + 1)).outro)) in
    omega (arith, c, run_count p s (entry_at t 0).intro, run_count p s (entry_at t 0).outro)

-- ── the spans ──
-- the only list that has 1 once and nothing else
single : (xs : List ℕ) → length xs ≡ 1 → Each (In 1) xs → xs ≡ 1 ∷ []
single [] l e = absurd (omega arith)
single (x ∷ []) l e = ap (λ (n : ℕ). n ∷ []) (omega (arith, e.0.0, e.0.1))
single (x ∷ y ∷ xs) l e = absurd (omega arith)

order_single : (t : List ℕ) → Linked t → count_of t ≡ 1 → order t ≡ 1 ∷ []
order_single t l e = single (order t) (order_length t ∙ e) (subst (λ (n : ℕ). Each (In n) (order t)) e (linked_once t l).inside)

first_start : List Span → ℕ
first_start [] = 0
first_start (x ∷ xs) = x.start

first_end : List Span → ℕ
first_end [] = 0
first_end (x ∷ xs) = x.end

module _ (t p s : List ℕ) (l : Linked t) where
  empty_covered : Empty t (count_of t) → Covered [] (chunks_of t p s)
  empty_covered e = rw (order_single t l e.single, e.start, e.end)

  covered_empty : Covered [] (chunks_of t p s) → Empty t (count_of t)
  unfolding first_start first_end
  covered_empty c =
      let n : count_of t ≡ 1 = sym (length-map (chunks_of t p s) (λ (x : Chunk). x.span) ∙ length_chunks t p s) ∙ ap length c in
      let d : map (λ (x : Chunk). x.span) (map (chunk_of p s) (map (entry_at t) (1 ∷ []))) ≡ record { start = 0; end = 0 } ∷ [] = rw (order_single t l n) at c in
      record { single = n; start = ap first_start d; end = ap first_end d }

  covers_are : (x : ℕ) → sum (covers x) (chunks_of t p s) ≡ sum_to (λ k. indicator (chunk_starts_of t k) (ends_of t k) x) (count_of t)
  unfolding covers indicator
  covers_are x = sum_chunks t l p s (covers x)

  tiled_covered : (source : List ℕ) → spans.Tiled (chunk_starts_of t) (ends_of t) (count_of t) (length source) → Edges source t (count_of t) → Tiled source (chunks_of t p s)
  tiled_covered source d e =
      record {
        spans = all_chunks t l p s (λ k h.
            record {
              proper = d.filled k h;
              inside = d.inside k h;
              start_between = (e k h).start;
              end_between = (e k h).end;
            });
        once = λ x h. covers_are x ∙ d.cover x h;
      }

  covered_tiled : (source : List ℕ) → Tiled source (chunks_of t p s) → spans.Tiled (chunk_starts_of t) (ends_of t) (count_of t) (length source)
  covered_tiled source d =
      record {
        filled = λ k h. (chunks_all t l p s d.spans k h).proper;
        inside = λ k h. (chunks_all t l p s d.spans k h).inside;
        cover = λ x h. sym (covers_are x) ∙ d.once x h;
      }

  -- both ways, for a source that is empty or not
  spans_covered : (source : List ℕ) → Spans t (count_of t) (length source) → Edges source t (count_of t) → Covered source (chunks_of t p s)
  spans_covered [] x e = empty_covered (x.empty refl)
  spans_covered (a ∷ src) x e = tiled_covered (a ∷ src) (x.full (omega arith)) e

  covered_spans : (source : List ℕ) → Covered source (chunks_of t p s) → Spans t (count_of t) (length source)
  covered_spans [] c = record { empty = λ z. covered_empty c; full = λ h. absurd (omega arith) }
  covered_spans (a ∷ src) c = record { empty = λ z. absurd (omega arith); full = λ h. covered_tiled (a ∷ src) c }

  covered_edges : (source : List ℕ) → Covered source (chunks_of t p s) → Edges source t (count_of t)
  covered_edges [] c k h =
      record {
        start = between_past [] (chunk_starts_of t k) utf8_nil (omega arith);
        end = between_past [] (ends_of t k) utf8_nil (omega arith);
      }
  covered_edges (a ∷ src) c k h =
      let q = chunks_all t l p s c.spans k h in
      record { start = q.start_between; end = q.end_between }

-- ── the whole sentence ──
module _ (source t p s : List ℕ) where
  rows_readable : Linked t → Placed t p (count_of t) (length s) → Readable t p s
  rows_readable l x =
      let hr : length p / 2 * 2 ≤ length p = omega arith in
      let hb : length s ≤ length s = omega arith in
      record {
        linked = l;
        desk = record {
          intro = run_inside p s (length s) (length p / 2) hr hb (entry_at t 0).intro x.below.desk.0;
          outro = run_inside p s (length s) (length p / 2) hr hb (entry_at t 0).outro x.below.desk.1;
        };
        chunks = all_entries t l (λ k h. entry_inside p s (length s) (length p / 2) hr hb (entry_at t (k + 1)) (x.below.chunks k h));
      }

  rows_disjoint : Linked t → Placed t p (count_of t) (length s) → Disjoint t p
  rows_disjoint l x =
      record {
        pieces = λ j. rw (sum_entries t l (piece_uses j)) (x.apart.pieces j);
        bytes = λ b. rw (sum_entries t l (byte_uses p b)) (x.apart.bytes b);
      }

  rows_desk : ByRows source t p s → Formed (magic_string_of source t p s)
  unfolding magic_string_of
  rows_desk h =
      let l = h.chunked.linked in
      let x = h.pieced.texts in
      record {
        source = h.text;
        covered = spans_covered t p s l source h.chunked.spans h.chunked.edges;
        intro = x.desk.intro;
        outro = x.desk.outro;
        texts = all_chunks t l p s (λ k g. x.chunks k g);
      }

  pub rows_formed : ByRows source t p s → WellFormed source t p s
  rows_formed h =
      let l = h.chunked.linked in
      let z = h.shaped.sized in
      let r = rows_readable l h.pieced.placed in
      let d = rows_disjoint l h.pieced.placed in
      record {
        sized = z;
        readable = r;
        each = (linked_once t l).each;
        disjoint = d;
        desk = record {
          formed = rows_desk h;
          limits = keeps_within
              (record {
                source = rw (source_of source t p s) h.shaped.fits;
                chunks = rw (chunk_count source t p s) (omega (arith, l.room));
                pieces = rw (count_is source t p s l) h.pieced.count;
                bytes = bytes_fit source t p s r d;
              });
        };
      }

  formed_placed : Readable t p s → Disjoint t p → Placed t p (count_of t) (length s)
  formed_placed r d =
      let l = r.linked in
      record {
        below = record {
          desk = (inside_run p s (entry_at t 0).intro r.desk.intro, inside_run p s (entry_at t 0).outro r.desk.outro);
          chunks = λ k h. inside_entry p s (entry_at t (k + 1)) (entries_all t l r.chunks k h);
        };
        apart = record {
          pieces = λ j. rw (sum_entries t l (piece_uses j)) at (d.pieces j);
          bytes = λ b. rw (sum_entries t l (byte_uses p b)) at (d.bytes b);
        };
      }

  formed_texts : Linked t → Formed (magic_string_of source t p s) → TextsValid t p s (count_of t)
  unfolding magic_string_of
  formed_texts l f = record { desk = record { intro = f.intro; outro = f.outro }; chunks = λ k h. chunks_all t l p s f.texts k h }

  formed_chunked : Linked t → Formed (magic_string_of source t p s) → Chunked source t
  unfolding magic_string_of
  formed_chunked l f =
      record {
        linked = l;
        spans = covered_spans t p s l source f.covered;
        edges = covered_edges t p s l source f.covered;
      }

  formed_text : Formed (magic_string_of source t p s) → utf8 source ≡ true
  unfolding magic_string_of
  formed_text f = f.source

  pub formed_rows : WellFormed source t p s → ByRows source t p s
  formed_rows w =
      let r = w.readable in
      let l = r.linked in
      let d = w.disjoint in
      let f = w.desk.formed in
      let k = keeps_desk w in
      record {
        shaped = record { sized = w.sized; fits = rw (source_of source t p s) at k.source };
        text = formed_text f;
        chunked = formed_chunked l f;
        pieced = record {
          count = rw (count_is source t p s l) at k.pieces;
          placed = formed_placed r d;
          texts = formed_texts l f;
        };
      }
