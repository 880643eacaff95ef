-- Laws of what `Lines` in specs/ defines.
use mathlib.Core.Path.{◌≡◌, refl, sym, ap, ap₂, ◌∙◌, subst}
use mathlib.Core.Bool.{Bool, true, false}
use mathlib.Core.List.{List, [], ◌∷◌, ◌++◌, map, map-append, append_assoc}
use Prim.Native.Nat.{ℕ, suc, ◌+◌, ◌-◌, ◌≤◌, ◌<◌}
use native.Mathlib.Omega.{arith}
use native.Mathlib.Decide.{dec_lt}
use lib.Dec.{leb}
use lib.ListN.{length, length-append}
use borrow.Author.Tests.{lt-ltb, le-ltb, leb-true, le-leb}
use Rattle.memory_layout.specs.Layout.{CHUNKS}
use Rattle.utf8.specs.Chars.{All, nil}
use Rattle.memory_table.specs.Order.{Entry, entry_at, count_of}
use Rattle.model.specs.Text.{Text}
use Rattle.model.proofs.Lists.{no_tf, all_snoc}
use Rattle.model.specs.Chunk.{Chunk, with_texts, start_of, first_half, second_half, prepend_intro}
use Rattle.model.specs.Indent.{Starts, then_start}
use Rattle.memory.specs.Layout.{Place, bytes_at, chunk_of}
use Rattle.memory.proofs.Desks.{no_run}
use Rattle.memory_list.specs.Insert.{Placed}
use Rattle.memory_list.specs.Split.{first, second}
use Rattle.memory_texts.proofs.Low.{rows_same, bytes_same, none_below, run_same, run_still, entry_same, entry_still, entries_same, entries_still}
use Rattle.memory_texts.specs.Low.{RowsKept, EntryLow}
use Rattle.model_indent_closed.specs.Indent.{split_lines}
use Rattle.model_indent_closed.proofs.Indent.{split_lines_inside, split_lines_at_start}
use Rattle.indent_line_starts.specs.Next.{StartAt}
use Rattle.indent_cuts.specs.Splice.{with_intro_at, Begun, CutRoom, CutDone}
use Rattle.indent_cuts.proofs.Splice.{Cutting, cutting_none, cutting_placed, cutting_more, cutting_end}
use Rattle.indent_cuts.specs.Lines.{lines_from, parts, LinesReady, Parts}

pub leb_less : (x y : ℕ) → leb x y ≡ false → y < x
leb_less x y e = elim (dec_lt y x) [ yes k ↦ k | no k ↦ no_tf (sym (le-leb x y (omega arith)) ∙ e) ]

pub parts_inside : (a i : ℕ) (l : List ℕ) → a < i → parts a (i ∷ l) ≡ suc (parts i l)
parts_inside a i l h = rw (lt-ltb a i h, parts)

pub parts_at_start : (a i : ℕ) (l : List ℕ) → i ≤ a → parts a (i ∷ l) ≡ parts a l
parts_at_start a i l h = rw (le-ltb a i h, parts)

pub parts_some : (a : ℕ) (l : List ℕ) → 1 ≤ parts a l
parts_some a [] = omega arith
parts_some a (i ∷ l) =
    elim (dec_lt a i) [
      | yes h ↦ omega (arith, parts_inside a i l h)
      | no h ↦ omega (arith, parts_at_start a i l (omega arith), parts_some a l)
    ]

pub lines_parts : (indentor : Text) (c : Chunk) (l : List ℕ) → length (split_lines indentor c l) ≡ parts (start_of c) l
lines_parts indentor c [] = refl
lines_parts indentor c (i ∷ l) =
    elim (dec_lt (start_of c) i) [
      | yes h ↦
          ap length (split_lines_inside indentor c i l h) ∙ ap suc (lines_parts indentor (with_texts (prepend_intro indentor) (second_half i c)) l) ∙ sym (parts_inside (start_of c) i l h)
      | no h ↦
          ap length (split_lines_at_start indentor c i l (omega arith)) ∙ lines_parts indentor (with_texts (prepend_intro indentor) c) l ∙ sym (parts_at_start (start_of c) i l (omega arith))
    ]

-- ---- the two halves of a row, and a row with the indentor in front, as chunks

module _ (p s : List ℕ) (q : ℕ) (e : Entry) where
  lift_first : chunk_of p s (first q e) ≡ first_half q (chunk_of p s e)
  lift_first = rw (no_run p s 0)

  lift_second : chunk_of p s (second q e) ≡ second_half q (chunk_of p s e)
  lift_second = rw (no_run p s 0)

module _ (p : List ℕ) (top byte q : ℕ) (e : Entry) (h : EntryLow p top byte e) where
  first_low : EntryLow p top byte (first q e)
  first_low = record { runs = record { intro = h.runs.intro; outro = none_below p byte top 0 }; text = h.text }

  second_low : EntryLow p top byte (second q e)
  second_low = record { runs = record { intro = none_below p byte top 0; outro = h.runs.outro }; text = h.text }

module _ {y : Place} {top : ℕ} {p p' : List ℕ} {run : Place} {top' : ℕ} (e : Entry) (b : Begun y e.intro top p p' run top') (byte : ℕ) (h : EntryLow p top byte e) where
  pub begun_chunk : (s : List ℕ) → chunk_of p' s (with_intro_at run e) ≡ with_texts (prepend_intro (bytes_at s y)) (chunk_of p s e)
  begun_chunk s = rw (b.texts s, run_same top byte p s p' s b.rows (bytes_same byte s) e.outro h.runs.outro)

  pub begun_low : y.0 + y.1 ≤ byte → EntryLow p' top' byte (with_intro_at run e)
  begun_low g =
      record {
        runs =
            record {
              intro = b.low byte g h.runs.intro;
              outro = run_still top byte p p' b.rows top' byte b.up (omega arith) e.outro h.runs.outro;
            };
        text = h.text;
      }

-- ---- cuts behind the row's start

-- the parts ds are done, row cur is the last one, and its line starts from `from` on are left
pub record LinesAt (exclude source t₀ p₀ : List ℕ) (i from₀ end : ℕ) (mark₀ : Bool) (y : Place) (top₀ : ℕ) (t p : List ℕ) (cur from : ℕ) (mark : Bool) (top : ℕ) : Type 0 where
  pub ds : List Entry
  pub cutting : Cutting t₀ t i cur ds
  pub after : (entry_at t cur).start < from
  pub up_to : from ≤ end
  pub mark_is : (lines_from exclude source mark₀ from₀ end).mark ≡ (lines_from exclude source mark from end).mark
  pub count : parts (entry_at t₀ i).start (lines_from exclude source mark₀ from₀ end).starts ≡ length ds + parts (entry_at t cur).start (lines_from exclude source mark from end).starts
  pub rows : RowsKept top₀ p₀ p
  pub up : top₀ ≤ top
  pub used : top + (CHUNKS - count_of t) ≤ top₀ + (CHUNKS - count_of t₀)
  pub low : (byte : ℕ) → y.0 + y.1 ≤ byte → EntryLow p₀ top₀ byte (entry_at t₀ i) → All (EntryLow p top byte) ds × EntryLow p top byte (entry_at t cur)
  pub chunks : (s : List ℕ) (byte : ℕ) → y.0 + y.1 ≤ byte → EntryLow p₀ top₀ byte (entry_at t₀ i)
      → split_lines (bytes_at s y) (chunk_of p₀ s (entry_at t₀ i)) (lines_from exclude source mark₀ from₀ end).starts
      ≡ map (chunk_of p s) ds ++ split_lines (bytes_at s y) (chunk_of p s (entry_at t cur)) (lines_from exclude source mark from end).starts

pub lines_start : {exclude source t p : List ℕ} {i from end : ℕ} {mark : Bool} {y : Place} {top : ℕ} → LinesReady source t p i from end top
    → LinesAt exclude source t p i from end mark y top t p i from mark top
lines_start {t = t} {p = p} {i = i} {top = top} h =
    record {
      ds = [];
      cutting = cutting_none t i h.linked;
      after = h.after;
      up_to = h.up_to;
      mark_is = refl;
      count = omega arith;
      rows = rows_same top p;
      up = omega arith;
      used = omega arith;
      low = λ byte b k. (nil, k);
      chunks = λ s byte b k. refl;
    }

starts_f : Starts → List ℕ
starts_f r = r.starts

mark_f : Starts → Bool
mark_f r = r.mark

module _ {exclude source t₀ p₀ : List ℕ} {i from₀ end : ℕ} {mark₀ : Bool} {y : Place} {top₀ : ℕ} {t p : List ℕ} {cur from : ℕ} {mark : Bool} {top : ℕ}
    (h : LinesReady source t₀ p₀ i from₀ end top₀) (a : LinesAt exclude source t₀ p₀ i from₀ end mark₀ y top₀ t p cur from mark top) where
  abbrev W₀ : Starts
  W₀ = lines_from exclude source mark₀ from₀ end

  abbrev W : Starts
  W = lines_from exclude source mark from end

  pub lines_placed : Placed t cur
  lines_placed = cutting_placed a.cutting h.placed

  -- room for a row more, where there are fewer chunks than there may be
  pub lines_room : leb CHUNKS (count_of t) ≡ false → CutRoom t p top
  lines_room f =
      let g = leb_less CHUNKS (count_of t) f in
      record {
        chunk = omega (arith, h.rows, a.cutting.len);
        narrow = omega (arith, h.narrow, a.cutting.len);
        piece = omega (arith, h.piece_rows, a.used, a.rows.len);
        narrow_pieces = omega (arith, h.narrow_pieces, a.rows.len);
      }

  -- where no line start is left
  pub lines_end : {m : Bool} → W ≡ record { mark = m; starts = [] } → Parts 0 t₀ p₀ i top₀ y W₀.starts t p top × (m ≡ W₀.mark)
  unfolding starts_f mark_f
  lines_end e = (
    record {
      es = a.ds ++ entry_at t cur ∷ [];
      spliced = cutting_end a.cutting;
      rows = a.rows;
      up = a.up;
      used = omega (arith, a.used);
      low = λ byte b k. let x = a.low byte b k in all_snoc x.0 x.1;
      chunks = λ s byte b k.
          map-append (chunk_of p s) a.ds (entry_at t cur ∷ [])
          ∙ sym (a.chunks s byte b k ∙ ap (λ (l : List ℕ). map (chunk_of p s) a.ds ++ split_lines (bytes_at s y) (chunk_of p s (entry_at t cur)) l) (ap starts_f e));
    },
    sym (a.mark_is ∙ ap mark_f e),
  )

  module _ {x : ℕ} (n : StartAt source exclude mark from end x) where
    abbrev W' : Starts
    W' = lines_from exclude source false (x + 1) end

    next : W ≡ then_start x W'
    next = n.found

    past_start : (entry_at t cur).start < x
    past_start = omega (arith, a.after, n.from_on)

    part_more : parts (entry_at t cur).start W.starts ≡ suc (parts x W'.starts)
    unfolding starts_f
    part_more = ap (λ (r : Starts). parts (entry_at t cur).start r.starts) next ∙ parts_inside (entry_at t cur).start x W'.starts past_start

    -- too many chunks
    pub lines_full : leb CHUNKS (count_of t) ≡ true → CHUNKS + 1 < count_of t₀ + parts (entry_at t₀ i).start W₀.starts
    lines_full f = omega (arith, a.count, a.cutting.count, part_more, parts_some x W'.starts, leb-true CHUNKS (count_of t) f)

    -- one more cut
    module _ (f : leb CHUNKS (count_of t) ≡ false) {t' p' : List ℕ} {k : ℕ} (c : CutDone t p t' p' cur k x y top) where
      abbrev e : Entry
      e = entry_at t cur

      new : entry_at t' k ≡ with_intro_at c.run (second x e)
      new = c.part.new

      start_is : (entry_at t' k).start ≡ x
      start_is = ap (λ (z : Entry). z.start) new

      part_chunks : (s : List ℕ) (byte : ℕ) → y.0 + y.1 ≤ byte → EntryLow p₀ top₀ byte (entry_at t₀ i)
          → map (chunk_of p s) a.ds ++ split_lines (bytes_at s y) (chunk_of p s e) W.starts
          ≡ map (chunk_of p' s) (a.ds ++ first x e ∷ []) ++ split_lines (bytes_at s y) (chunk_of p' s (entry_at t' k)) W'.starts
      unfolding starts_f
      part_chunks s byte b g =
          let l = a.low byte b g in
          let c0 = chunk_of p s e in
          let d0 : Chunk = with_texts (prepend_intro (bytes_at s y)) (second_half x c0) in
          let still = bytes_same byte s in
          let one : chunk_of p' s (first x e) ≡ first_half x c0 = lift_first p' s x e ∙ ap (first_half x) (entry_same top byte p s p' s c.begun.rows still e l.1) in
          let two : chunk_of p' s (entry_at t' k) ≡ d0 =
          ap (chunk_of p' s) new ∙ begun_chunk (second x e) c.begun byte (second_low p top byte x e l.1) s ∙ ap (with_texts (prepend_intro (bytes_at s y))) (lift_second p s x e) in
          ap (λ (z : Starts). map (chunk_of p s) a.ds ++ split_lines (bytes_at s y) c0 z.starts) next
          ∙ ap (λ (z : List Chunk). map (chunk_of p s) a.ds ++ z) (split_lines_inside (bytes_at s y) c0 x W'.starts past_start)
          ∙ sym (
          ap₂ (λ (u : List Chunk) (d : Chunk). u ++ split_lines (bytes_at s y) d W'.starts)
          (map-append (chunk_of p' s) a.ds (first x e ∷ [])
          ∙ ap₂ (λ (u : List Chunk) (d : Chunk). u ++ d ∷ []) (entries_same top byte p s p' s c.begun.rows still l.0) one) two
          ∙ append_assoc (map (chunk_of p s) a.ds) (first_half x c0 ∷ []) (split_lines (bytes_at s y) d0 W'.starts))

      pub lines_more : LinesAt exclude source t₀ p₀ i from₀ end mark₀ y top₀ t' p' k (x + 1) false (top + 1)
      unfolding starts_f mark_f
      lines_more =
          record {
            ds = a.ds ++ first x e ∷ [];
            cutting = cutting_more a.cutting c.part;
            after = omega (arith, start_is);
            up_to = omega (arith, n.below);
            mark_is = a.mark_is ∙ ap mark_f next;
            count = a.count ∙ omega (arith, part_more, length-append a.ds (first x e ∷ []), ap (λ (z : ℕ). parts z W'.starts) start_is);
            rows = record { len = c.begun.rows.len ∙ a.rows.len; rows = λ j g. c.begun.rows.rows j (omega (arith, a.up)) ∙ a.rows.rows j g };
            up = omega (arith, a.up);
            used = omega (arith, a.used, c.part.count, leb_less CHUNKS (count_of t) f);
            low = λ byte b g.
                let l = a.low byte b g in
                let still = entry_still top byte p p' c.begun.rows (top + 1) byte (omega arith) (omega arith) in (
                  all_snoc (entries_still top byte p p' c.begun.rows (top + 1) byte (omega arith) (omega arith) l.0) (first_low p' (top + 1) byte x e (still e l.1)),
                  subst (EntryLow p' (top + 1) byte) (sym new) (begun_low (second x e) c.begun byte (second_low p top byte x e l.1) b),
                );
            chunks = λ s byte b g. a.chunks s byte b g ∙ part_chunks s byte b g;
          }
