-- The loop of a rebuild: entries laid in list order into rows 1, 2, ..
use mathlib.Core.Path.{◌≡◌, refl, sym, ap, ap₂, ◌∙◌, subst}
use mathlib.Core.Bool.{Bool, true, cond}
use mathlib.Core.List.{List, [], ◌∷◌, ◌++◌, map, map-append, append_assoc, append-nil}
use mathlib.Core.Option.{Option, none, some}
use Prim.Native.Nat.{ℕ, zero, suc, ◌+◌, ◌*◌, ◌-◌, ◌≤◌, ◌<◌, min}
use native.Mathlib.Omega.{arith}
use native.Mathlib.Numerals.{add-one}
use native.Mathlib.Decide.{ℕ_discrete}
use lib.Dec.{eqb}
use lib.ListN.{length, take, drop, length-append, length-map}
use borrow.Author.Tests.{eq-eqb, ne_eqb}
use Rattle.memory_layout.specs.Layout.{ROW, NONE}
use Rattle.utf8.specs.Chars.{All, nil, cons}
use Rattle.utf8.proofs.CharLaws.{all_back}
use Rattle.memory_table.specs.declared.Row.{Row}
use Rattle.memory_table.specs.Ring.{Each, Edge, Links, follow}
use Rattle.memory_table.proofs.Ring.{map_same, each_append, each_map, links_append, ring_of}
use Rattle.memory_table.specs.Table.{row_at, Put}
use Rattle.memory_table.specs.Order.{Entry, entry_of, entry_at, entries, order, next_of, prev_of, count_of, Linked}
use Rattle.memory_table.proofs.Order.{inside_at, count_entries}
use Rattle.model.specs.Text.{Text, sum}
use Rattle.model.specs.Chunk.{Chunk, chunk_from}
use Rattle.model.specs.Limits.{Limits, within, chunk_pieces, chunk_bytes}
use Rattle.model.proofs.Lists.{bool-elim, sum_snoc, all_map, all_snoc, first_of, rest_of}
use Rattle.memory.specs.Layout.{Place, replacement_of, chunk_of, magic_string_of}
use Rattle.memory.specs.WellFormed.{limits_of, Sized, Lengths, RunIn, ReplacementIn, EntryIn, Readable, times, piece_uses, list_uses, byte_uses, replacement_uses}
use Rattle.memory.proofs.Desks.{desk_same, no_uses, within_keeps}
use Rattle.memory_used.specs.Below.{Below, EntryBelow}
use Rattle.edit_rebuild.specs.Lay.{Grown, LaidEntry, RoomEntry, Laying, own, up_to, next_for, LayAt, SeqRow, OwnRow}
use Rattle.memory_texts.specs.Own.{own_of}
use Rattle.edit_rebuild.specs.Rebuilt.{Rebuilt}
use Rattle.edit_rebuild.proofs.LayOne.{grown_run, grown_below, grown_uses, grown_text}

-- ── one entry more ──
module _ {P S : List ℕ} {byte row : ℕ} {P' S' : List ℕ} {byte' row' : ℕ} (g : Grown P S byte row P' S' byte' row') where
  stay_chunk : (e : Entry) → EntryBelow P byte row e → chunk_of P' S' e ≡ chunk_of P S e
  stay_chunk e h = rw (grown_run g e.intro h.intro, grown_run g e.outro h.outro, grown_text g e.text h.text)

  stay_below : (e : Entry) → EntryBelow P byte row e → EntryBelow P' byte' row' e
  stay_below e h =
      record {
        intro = grown_below g e.intro h.intro;
        outro = grown_below g e.outro h.outro;
        text = λ n. omega (arith, h.text n, g.bytes_grow);
      }

  stay_bytes : (b : ℕ) (e : Entry) → EntryBelow P byte row e → byte_uses P' b e ≡ byte_uses P b e
  stay_bytes b e h = rw (grown_uses g b e.intro h.intro, grown_uses g b e.outro h.outro)

  stay_chunks : {es : List Entry} → All (EntryBelow P byte row) es → map (chunk_of P' S') es ≡ map (chunk_of P S) es
  stay_chunks nil = refl
  stay_chunks (cons {x = e} h k) = ap₂ (λ (x : Chunk) (l : List Chunk). x ∷ l) (stay_chunk e h) (stay_chunks k)

  stay_total : (b : ℕ) {es : List Entry} → All (EntryBelow P byte row) es → sum (byte_uses P' b) es ≡ sum (byte_uses P b) es
  stay_total b nil = refl
  stay_total b (cons {x = e} h k) = ap₂ (λ (x y : ℕ). x + y) (stay_bytes b e h) (stay_total b k)

lay_more : {p s : List ℕ} {us vs : List Entry} {P S : List ℕ} {byte row : ℕ} {e e' : Entry} {P' S' : List ℕ} {byte' row' : ℕ}
    → Laying p s us vs P S byte row → LaidEntry p s e e' P S byte row P' S' byte' row' → Laying p s (us ++ (e ∷ [])) (vs ++ (e' ∷ [])) P' S' byte' row'
lay_more {p} {s} {us} {vs} {P} {S} {byte} {row} {e} {e'} {P'} {S'} {byte'} {row'} l d =
    record {
      chunks =
          map-append (chunk_of P' S') vs (e' ∷ [])
          ∙ ap₂ (λ (xs : List Chunk) (x : Chunk). xs ++ (x ∷ [])) (stay_chunks d.grown l.below ∙ l.chunks) d.chunk
          ∙ sym (map-append (chunk_of p s) us (e ∷ []));
      below = all_snoc (all_map (λ x h. stay_below d.grown x h) l.below) d.below;
      rows = λ j. sum_snoc (piece_uses j) vs e' ∙ ap (λ (x : ℕ). x + piece_uses j e') (l.rows j) ∙ d.rows j;
      bytes = λ b. sum_snoc (byte_uses P' b) vs e' ∙ ap (λ (x : ℕ). x + byte_uses P' b e') (stay_total d.grown b l.below ∙ l.bytes b) ∙ d.bytes b;
    }

lay_none : (p s P S : List ℕ) → Laying p s [] [] P S 0 0
lay_none p s P S = record { chunks = refl; below = nil; rows = λ j. omega arith; bytes = λ b. omega arith }

-- ── rows linked in sequence ──
up_length : (n : ℕ) → length (up_to n) ≡ n
up_length zero = refl
up_length (suc n) = length-append (up_to n) (suc n ∷ []) ∙ omega (arith, up_length n)

up_in : (k n : ℕ) → k ≤ n → Each (λ x. (0 < x) × (x ≤ n)) (up_to k)
up_in zero n h = tt
up_in (suc k) n h = each_append (λ x. (0 < x) × (x ≤ n)) (up_to k) (suc k ∷ []) (up_in k n (omega arith)) ((omega arith, h), tt)

up_links : (nx pv : ℕ → ℕ) (k : ℕ) → ((i : ℕ) → i < k → Edge nx pv i (suc i)) → (y : ℕ) → Edge nx pv k y → Links (Edge nx pv) 0 (up_to k) y
up_links nx pv zero f y e = e
up_links nx pv (suc k) f y e =
    links_append (Edge nx pv) 0 (up_to k) (suc k) [] y (up_links nx pv k (λ i h. f i (omega arith)) (suc k) (f k (omega arith))) e

in_sequence : (c : List ℕ) (n : ℕ) → count_of c ≡ n → n * ROW + ROW ≤ length c → ((i : ℕ) → i < n → Edge (next_of c) (prev_of c) i (suc i)) → Edge (next_of c) (prev_of c) n 0
    → (order c ≡ up_to n) × Linked c
unfolding order
in_sequence c n e r f l =
    let x = ring_of (next_of c) (prev_of c) n (up_to n) (up_length n) (up_links (next_of c) (prev_of c) n f 0 l) (up_in n n (omega arith)) in
    (rw e x.0, record { ring = rw e x.1; room = rw e r })

-- "holds every chunk once"
abbrev is : ℕ → ℕ → ℕ
is i x = cond (eqb x i) 1 0

is_it : (i x : ℕ) → x ≡ i → is i x ≡ 1
is_it i x e = rw (eq-eqb x i e)

is_not : (i x : ℕ) → (x ≡ i → ⊥) → is i x ≡ 0
is_not i x e = rw (ne_eqb x i e)

up_none : (n i : ℕ) → n < i → sum (is i) (up_to n) ≡ 0
up_none zero i h = refl
up_none (suc n) i h = sum_snoc (is i) (up_to n) (suc n) ∙ omega (arith, is_not i (suc n) (λ z. omega arith), up_none n i (omega arith))

up_times : (n i : ℕ) → 0 < i → i ≤ n → times i (up_to n) ≡ 1
unfolding times
up_times zero i h k = absurd (omega arith)
up_times (suc n) i h k =
    sum_snoc (is i) (up_to n) (suc n)
    ∙ elim (ℕ_discrete (suc n) i) [
      | yes e ↦ omega (arith, is_it i (suc n) e, up_none n i (omega arith))
      | no e ↦ omega (arith, is_not i (suc n) e, up_times n i h (omega arith))
    ]

-- ── the end: the desk's own row is laid first, as an entry with no replacement ──
module _ (P S : List ℕ) (byte row : ℕ) (hr : row * 2 ≤ length P) (hb : byte ≤ length S) where
  run_below_in : (r : Place) → Below P byte row r → RunIn P S r
  unfolding RunIn
  run_below_in r h k l = record { row = omega (arith, (h k l).0); text = omega (arith, (h k l).1) }

  entry_below_in : (e : Entry) → EntryBelow P byte row e → EntryIn P S e
  unfolding ReplacementIn
  entry_below_in e h =
      record {
        runs = record { intro = run_below_in e.intro h.intro; outro = run_below_in e.outro h.outro };
        replacement = λ n. omega (arith, h.text n);
      }

head_eq : {A : Type 0} {x y : A} {xs ys : List A} → x ∷ xs ≡ y ∷ ys → (x ≡ y) × (xs ≡ ys)
head_eq e = (cc, cc)

one_at_most : (x y n : ℕ) → x + y ≡ min 1 n → x + y ≤ 1
one_at_most x y n e = omega arith

lay_done : {t p s t' P S : List ℕ} {n byte row : ℕ} → Laying p s (own t ∷ entries t) (own t' ∷ entries t') P S byte row
    → order t' ≡ up_to n → count_of t' ≡ n → Linked t' → row * 2 ≤ length P → byte ≤ length S → Rebuilt t p s t' P S
unfolding magic_string_of
lay_done {t} {p} {s} {t'} {P} {S} {n} {byte} {row} l o c k hr hb =
    let e = head_eq l.chunks in
    let w = first_of l.below in
    record {
      readable =
          record {
            linked = k;
            desk = record { intro = run_below_in P S byte row hr hb (entry_at t' 0).intro w.intro; outro = run_below_in P S byte row hr hb (entry_at t' 0).outro w.outro };
            chunks = all_map (λ x h. entry_below_in P S byte row hr hb x h) (rest_of l.below);
          };
      each = λ i h m. ap (times i) o ∙ up_times n i h (omega (arith, c));
      disjoint =
          record {
            pieces = λ j. one_at_most (piece_uses j (entry_at t' 0)) (sum (piece_uses j) (entries t')) (row - j) (l.rows j);
            bytes =
                λ b.
                one_at_most (list_uses P b (entry_at t' 0)) (sum (byte_uses P b) (entries t')) (byte - b)
                (let q : list_uses P b (entry_at t' 0) + replacement_uses b (NONE, 0) ≡ list_uses P b (entry_at t' 0) = omega (arith, no_uses b) in
                ap (λ (x : ℕ). x + sum (byte_uses P b) (entries t')) (sym q) ∙ l.bytes b);
          };
      desk = λ source. desk_same source (ap (λ (c : Chunk). c.texts.intro) e.0) (ap (λ (c : Chunk). c.texts.outro) e.0) e.1;
    }

-- ── a turn ──
module _ {t p s : List ℕ} {k m cur byte row : ℕ} {C P S : List ℕ} (h : Readable t p s) (l : LayAt t p s k (suc m) cur byte row C P S) where
  turn_in : EntryIn p s (entry_at t cur)
  turn_in =
      first_of (all_back (EntryIn p s) (map (entry_at t) l.done) (map (entry_at t) (follow (next_of t) (suc m) cur))
      (subst (All (EntryIn p s)) (ap (map (entry_at t)) l.place ∙ map-append (entry_at t) l.done (follow (next_of t) (suc m) cur)) h.chunks))

  turn_row : cur * ROW + ROW ≤ length t
  turn_row = omega (arith, h.linked.room, (inside_at t l.done cur (follow (next_of t) m (next_of t cur)) h.linked l.place).1)

  turn_room : length P < 4294967295 → length S < 4294967295 → RoomEntry p s (entry_at t cur) P S byte row
  turn_room hp hs =
      record {
        rows_in = omega (arith, l.rows_left);
        bytes_in = omega (arith, l.bytes_left);
        rows_narrow = hp;
        narrow = hs;
      }

  -- row k + 1 is written; row k led to it already
  turn_more : {P' S' : List ℕ} {byte' row' : ℕ} {C' : List ℕ} {x : Row} {e' : Entry} → LaidEntry p s (entry_at t cur) e' P S byte row P' S' byte' row'
      → entry_of x ≡ e' → x.prev ≡ k → x.next ≡ next_for m (suc k) → Put C C' (suc k) x → length P' ≡ length P → length S' ≡ length S
      → LayAt t p s (suc k) m (next_of t cur) byte' row' C' P' S'
  turn_more {P'} {S'} {byte'} {row'} {C'} {x} {e'} d ex ep en w lp ls =
      let same : map (entry_at C') (up_to k) ≡ map (entry_at C) (up_to k) =
      map_same (entry_at C') (entry_at C) (up_to k)
      (each_map (λ i. (0 < i) × (i ≤ k)) (λ i. entry_at C' i ≡ entry_at C i) (λ i g. ap entry_of (w.off i (λ e. omega (arith, g.1)))) (up_to k) (up_in k k (omega arith))) in
      let mine : own C' ≡ own C = ap own_of (w.off 0 (λ e. omega arith)) in
      let vs : own C' ∷ map (entry_at C') (up_to (suc k)) ≡ (own C ∷ map (entry_at C) (up_to k)) ++ (e' ∷ []) =
      ap₂ (λ (a : Entry) (r : List Entry). a ∷ r) mine (map-append (entry_at C') (up_to k) (suc k ∷ []) ∙ ap₂ (λ (r : List Entry) (a : Entry). r ++ (a ∷ [])) same (ap entry_of w.at ∙ ex)) in
      record {
        done = l.done ++ (cur ∷ []);
        place = l.place ∙ sym (append_assoc l.done (cur ∷ []) (follow (next_of t) m (next_of t cur)));
        laying = rw (vs, map-append (entry_at t) l.done (cur ∷ [])) (lay_more l.laying d);
        fwd =
            λ i g.
            elim (ℕ_discrete i k) [
              | yes e ↦
                  record {
                    fwd = ap (next_of C') e ∙ ap (λ (r : Row). r.next) (w.off k (λ z. omega (arith, z))) ∙ l.tip ∙ ap suc (sym e);
                    bwd = ap (λ (j : ℕ). prev_of C' (suc j)) e ∙ ap (λ (r : Row). r.prev) w.at ∙ ep ∙ sym e;
                  }
              | no ne ↦
                  let a = l.fwd i (omega arith) in
                  record {
                    fwd = ap (λ (r : Row). r.next) (w.off i (λ z. omega (arith, z))) ∙ a.fwd;
                    bwd = ap (λ (r : Row). r.prev) (w.off (suc i) (λ z. omega (arith, z))) ∙ a.bwd;
                  }
            ];
        tip = ap (λ (r : Row). r.next) w.at ∙ en;
        back = ap (λ (r : Row). r.prev) (w.off 0 (λ z. omega arith)) ∙ l.back ∙ omega arith;
        count = ap (λ (r : Row). r.start) (w.off 0 (λ z. omega arith)) ∙ l.count ∙ omega arith;
        rows_left = omega (arith, l.rows_left, d.row_is, lp);
        bytes_left = omega (arith, l.bytes_left, d.byte_is, ls);
      }

turn_done : {t p s : List ℕ} {k cur byte row : ℕ} {C P S : List ℕ} → LayAt t p s k 0 cur byte row C P S → k * ROW + ROW ≤ length C → Rebuilt t p s C P S
turn_done {t} {p} {s} {k} {cur} {byte} {row} {C} {P} {S} l h =
    let n : count_of C ≡ k = l.count ∙ omega arith in
    let q = in_sequence C k n h l.fwd (record { fwd = l.tip; bwd = l.back ∙ omega arith }) in
    let u : entries t ≡ map (entry_at t) l.done = ap (map (entry_at t)) (l.place ∙ append-nil l.done) in
    let v : entries C ≡ map (entry_at C) (up_to k) = ap (map (entry_at C)) q.0 in
    let y : Laying p s (own t ∷ entries t) (own C ∷ entries C) P S byte row = rw (u, v) l.laying in
    lay_done {n = k} {byte = byte} {row = row} y q.0 n q.1 (omega (arith, l.rows_left)) (omega (arith, l.bytes_left))

-- ── the start: the limits give the room, and the desk's own row is laid ──
pub within_room : (k : Limits) (t p s : List ℕ) → within k (magic_string_of [] t p s) ≡ true
    → (chunk_pieces (chunk_of p s (own t)) + sum chunk_pieces (map (chunk_of p s) (entries t)) ≤ k.most_pieces)
    × (chunk_bytes (chunk_of p s (own t)) + sum chunk_bytes (map (chunk_of p s) (entries t)) ≤ k.most_bytes)
    × (count_of t ≤ k.most_chunks)
unfolding magic_string_of replacement_of
within_room k t p s e =
    let w = within_keeps k (magic_string_of [] t p s) e in
    (omega (arith, w.pieces), omega (arith, w.bytes), omega (arith, w.chunks, length-map (entries t) (chunk_of p s), count_entries t))

chunk_eq : {a a' b b' : ℕ} {m : Bool} {x x' y y' : List Text} {w w' : Option Text} → a ≡ a' → b ≡ b' → x ≡ x' → y ≡ y' → w ≡ w'
    → chunk_from a b m (record { intro = x; outro = y; edited_content = w }) ≡ chunk_from a' b' m (record { intro = x'; outro = y'; edited_content = w' })
chunk_eq p q r s t = cc

-- the desk's own row has no span and no replacement
own_laid : (z l : Row) {p s : List ℕ} {P S P' S' : List ℕ} {byte row byte' row' : ℕ} → LaidEntry p s (own_of z) (entry_of l) P S byte row P' S' byte' row'
    → LaidEntry p s (own_of z) (own_of l) P S byte row P' S' byte' row'
unfolding replacement_of replacement_uses
own_laid z l {p} {s} {P} {S} {P'} {S'} {byte} {row} {byte'} d =
    let a : l.start ≡ 0 = ap (λ (c : Chunk). c.span.start) d.chunk in
    let b : l.end ≡ 0 = ap (λ (c : Chunk). c.span.end) d.chunk in
    let q : replacement_of S' (l.text_at, l.text_n) ≡ none = ap (λ (c : Chunk). c.texts.edited_content) d.chunk in
    let x : eqb l.text_at NONE ≡ true =
    bool-elim (eqb l.text_at NONE) (λ k. k)
    (λ k. let y : some (take l.text_n (drop l.text_at S')) ≡ none = rw k at q in let w : ◌≡◌ {A = ℕ} 0 1 = cc in absurd (omega arith)) in
    record {
      chunk = chunk_eq (sym a) (sym b) refl refl (sym q) ∙ d.chunk;
      below = record { intro = d.below.intro; outro = d.below.outro; text = λ n. absurd (n refl) };
      grown = d.grown;
      rows = d.rows;
      bytes = λ y. rw x at (d.bytes y);
      row_is = d.row_is;
      byte_is = d.byte_is;
    }

pub lay_start : {t p s : List ℕ} {l x : Row} {C C' P S P' S' : List ℕ} {byte row : ℕ} → LaidEntry p s (own t) (entry_of l) P S 0 0 P' S' byte row → OwnRow l x (count_of t) → Put C C' 0 x
    → within (limits_of C P S) (magic_string_of [] t p s) ≡ true → length P' ≡ length P → length S' ≡ length S
    → LayAt t p s 0 (count_of t) (next_of t 0) byte row C' P' S'
unfolding order
lay_start {t} {p} {s} {l} {x} {C} {C'} {P} {S} {P'} {S'} {byte} {row} d w q e lp ls =
    let m = within_room (limits_of C P S) t p s e in
    let o : own_of l ≡ own C' = sym w.runs ∙ ap own_of (sym q.at) in
    record {
      done = [];
      place = refl;
      laying = subst (λ (c : Entry). Laying p s (own t ∷ []) (c ∷ []) P' S' byte row) o (lay_more (lay_none p s P S) (own_laid (row_at t 0) l d));
      fwd = λ i h. absurd (omega arith);
      tip = ap (λ (r : Row). r.next) q.at ∙ w.next;
      back = ap (λ (r : Row). r.prev) q.at ∙ w.prev ∙ omega arith;
      count = ap (λ (r : Row). r.start) q.at ∙ w.count ∙ omega arith;
      rows_left = omega (arith, m.0, d.row_is, lp);
      bytes_left = omega (arith, m.1, d.byte_is, ls);
    }

-- ── the loop ──
pub record Loop (t p s : List ℕ) (n k cur byte row : ℕ) (C₀ P₀ S₀ C P S : List ℕ) : Type 0 where
  pub below : k ≤ n
  pub lengths : Lengths C₀ P₀ S₀ C P S
  pub at : LayAt t p s k (n - k) cur byte row C P S

module _ {t p s : List ℕ} {n k cur byte row : ℕ} {C₀ P₀ S₀ C P S : List ℕ} (h : Readable t p s) (z : Sized C₀ P₀ S₀) (l : Loop t p s n k cur byte row C₀ P₀ S₀ C P S) (g : k < n) where
  loop_at : LayAt t p s k (suc (n - (k + 1))) cur byte row C P S
  loop_at = let e : n - k ≡ suc (n - (k + 1)) = omega arith in rw e at l.at

  pub loop_row : cur * ROW + ROW ≤ length t
  loop_row = turn_row h loop_at

  pub loop_in : EntryIn p s (entry_at t cur)
  loop_in = turn_in h loop_at

  pub loop_room : RoomEntry p s (entry_at t cur) P S byte row
  loop_room = turn_room h loop_at (omega (arith, z.pieces, l.lengths.pieces)) (omega (arith, z.store, l.lengths.store))

  pub loop_more : {P' S' : List ℕ} {byte' row' : ℕ} {C' : List ℕ} {x y : Row} → LaidEntry p s (entry_at t cur) (entry_of y) P S byte row P' S' byte' row'
      → SeqRow y x k n → Put C C' (k + 1) x → length C' ≡ length C → length P' ≡ length P → length S' ≡ length S
      → Loop t p s n (k + 1) (next_of t cur) byte' row' C₀ P₀ S₀ C' P' S'
  loop_more {P'} {S'} {byte'} {row'} {C'} {x} {y} d w q lc lp ls =
      record {
        below = omega arith;
        lengths = record { chunks = lc ∙ l.lengths.chunks; pieces = lp ∙ l.lengths.pieces; store = ls ∙ l.lengths.store };
        at =
            subst (λ (j : ℕ). LayAt t p s j (n - (k + 1)) (next_of t cur) byte' row' C' P' S') (sym (add-one k))
            (turn_more h loop_at d w.same w.prev (w.next ∙ ap (next_for (n - (k + 1))) (add-one k)) (subst (λ (j : ℕ). Put C C' j x) (add-one k) q) lp ls);
      }

pub loop_done : {t p s : List ℕ} {n k cur byte row : ℕ} {C₀ P₀ S₀ C P S : List ℕ} → Loop t p s n k cur byte row C₀ P₀ S₀ C P S → n ≤ k → n * ROW + ROW ≤ length C₀ → Rebuilt t p s C P S
loop_done {n = n} {k = k} l h g = let e : n - k ≡ 0 = omega arith in turn_done (rw e at l.at) (omega (arith, l.below, l.lengths.chunks))

pub own_room : (t p s : List ℕ) {C P S : List ℕ} → within (limits_of C P S) (magic_string_of [] t p s) ≡ true → Sized C P S → RoomEntry p s (own t) P S 0 0
own_room t p s {C} {P} {S} e z =
    let m = within_room (limits_of C P S) t p s e in
    record {
      rows_in = omega (arith, m.0);
      bytes_in = omega (arith, m.1);
      rows_narrow = omega (arith, z.pieces);
      narrow = omega (arith, z.store);
    }

-- the chunks' rows fit
pub rows_fit : (t p s : List ℕ) {C P S : List ℕ} → within (limits_of C P S) (magic_string_of [] t p s) ≡ true → Sized C P S → count_of t * ROW + ROW ≤ length C
rows_fit t p s {C} {P} {S} e z = omega (arith, (within_room (limits_of C P S) t p s e).2, z.some)
