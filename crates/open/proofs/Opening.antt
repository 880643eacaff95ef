-- The desk that an opening leaves, and the answers of its refusals.
use mathlib.Core.Path.{◌≡◌, refl, ap, sym, subst, ◌∙◌}
use Rattle.std.specs.Prelude.{Ok, Err}
use mathlib.Core.Bool.{true, false}
use mathlib.Core.List.{List, [], ◌∷◌, map}
use Prim.Native.Nat.{ℕ, zero, suc, ◌+◌, ◌*◌, ◌/◌, ◌≤◌, ◌<◌}
use native.Mathlib.Omega.{arith}
use borrow.Author.Tests.{le-leb, lt-leb}
use lib.ListN.{length, take}
use Rattle.memory_layout.specs.Layout.{CHUNKS_LEAST, PIECE_ROOM, NONE}
use Rattle.utf8.specs.Rfc3629.{utf8, between}
use Rattle.utf8.specs.Chars.{All, nil, cons}
use Rattle.utf8.proofs.Boundaries.{between_zero, between_past}
use Rattle.memory_table.specs.declared.Row.{Row}
use Rattle.memory_table.specs.Table.{row_at, Put}
use Rattle.memory_table.specs.Ring.{follow}
use Rattle.memory_table.proofs.Ring.{ring_of}
use Rattle.memory_table.specs.Order.{Entry, entry_of, entry_at, next_of, prev_of, count_of, order, Linked}
use Rattle.model.specs.WellFormed.{Valid, ValidReplacement, ValidTexts}
use Rattle.model.specs.Chunk.{Chunk, new_chunk}
use Rattle.model.specs.MagicString.{new}
use Rattle.model.specs.Limits.{full, piece_count}
use Rattle.model.specs.Call.{opened}
use Rattle.memory_layout.specs.Refusals.{code}
use Rattle.memory_layout.specs.declared.refusal.Refusal.{Refusal}
use Rattle.memory_layout.specs.declared.refusal.Refusal.TheVariants.{NotUtf8, NotWellFormed, InsideCharacter, EndBeforeStart, ZeroWidth, CutInReplacement, AcrossMovedEdge, IntoItself, NotTogether, PastSource, SliceStart, SliceEnd, Limit, ShortBuffer, BadOption, BadSheet, NoSuchCall, NotApart, RefusedAlone, Frozen, MarksTooHigh}
use Rattle.memory.specs.Layout.{run_of, replacement_of, texts_of, chunk_of, magic_string_of}
use Rattle.memory.specs.WellFormed.{limits_of, Sized, ReplacementIn, RunsIn, EntryIn, Readable, piece_uses, run_uses, byte_uses, WellFormed}
use Rattle.memory.proofs.Desks.{sized_as, among_none, no_run, no_run_in, no_uses, desk_same}
use Rattle.memory_used.specs.declared.Used.{Used}
use Rattle.memory_used.specs.Above.{Above}
use Rattle.memory_counting.proofs.Sums.{indicator_in}
use Rattle.check_spans.specs.Spans.{Spans, Edged, Edges, chunk_starts_of, ends_of}
use Rattle.memory_used.specs.Below.{EntryBelow}
use Rattle.check_marks.specs.Marks.{entry_piece_count, piece_total}
use Rattle.check_texts_apart.specs.Places.{Placed}
use Rattle.check_texts_valid.specs.Valid.{ListsValid, TextsValid}
use Rattle.check_well_formed.proofs.Bridge.{rows_formed}
use Rattle.open.specs.Fresh.{desk_row, chunk_row, Fresh}
use Rattle.open.specs.OpenedWith.{Opens, NewDesk, OpenedWith}

-- two rows written one after the other
pub fresh_of : {t t₁ t₂ : List ℕ} {len : ℕ} → Put t t₁ 0 desk_row → Put t₁ t₂ 1 (chunk_row len) → length t₁ ≡ length t → length t₂ ≡ length t₁ → Fresh t t₂ len
fresh_of a b l m =
    record {
      desk = b.off 0 (λ e. omega arith) ∙ a.at;
      chunk = b.at;
      others = λ j h. b.off j (λ e. omega arith) ∙ a.off j (λ e. omega arith);
      same = m ∙ l;
    }

-- ── the desk ──
-- a row with no mark, no pieces and no replacement
abbrev bare_entry : ℕ → ℕ → Entry
bare_entry a e = record { start = a; end = e; frozen = 0; intro = (0, 0); outro = (0, 0); text = (NONE, 0) }

module _ (p s : List ℕ) where
  bare_chunk : (a e : ℕ) → chunk_of p s (bare_entry a e) ≡ new_chunk a e
  unfolding run_of replacement_of
  bare_chunk a e = refl

  run_empty : (at : ℕ) → All Valid (run_of p s (at, 0))
  run_empty at = rw (no_run p s at) nil

  text_none : ValidReplacement (replacement_of s (NONE, 0))
  unfolding replacement_of
  text_none = tt

  uses-empty : (at b : ℕ) → run_uses p b (at, 0) ≡ 0
  unfolding run_uses
  uses-empty at b = refl

-- the only number below 1
only : (P : ℕ → Type 0) → P 1 → (k : ℕ) → k < 1 → P (k + 1)
only P x zero h = x
only P x (suc k) h = absurd (omega arith)

module _ (t₀ t source p s : List ℕ) (f : Fresh t₀ t (length source)) where
  desk_entry : entry_at t 0 ≡ bare_entry 1 0
  desk_entry = ap entry_of f.desk

  chunk_entry : entry_at t 1 ≡ bare_entry 0 (length source)
  chunk_entry = ap entry_of f.chunk

  count_is : count_of t ≡ 1
  count_is = ap (λ (r : Row). r.start) f.desk

  next_is : next_of t 0 ≡ 1
  next_is = ap (λ (r : Row). r.next) f.desk

  order_is : order t ≡ 1 ∷ []
  unfolding order
  order_is = ap (λ (n : ℕ). follow (next_of t) n (next_of t 0)) count_is ∙ ap (λ (x : ℕ). x ∷ []) next_is

  pub fresh_desk : magic_string_of source t p s ≡ new source
  unfolding magic_string_of
  fresh_desk =
      desk_same source
      (ap (λ (e : Entry). run_of p s e.intro) desk_entry ∙ no_run p s 0)
      (ap (λ (e : Entry). run_of p s e.outro) desk_entry ∙ no_run p s 0)
      (ap (λ (xs : List ℕ). map (chunk_of p s) (map (entry_at t) xs)) order_is
      ∙ ap (λ (e : Entry). chunk_of p s e ∷ []) chunk_entry
      ∙ ap (λ (c : Chunk). c ∷ []) (bare_chunk p s 0 (length source)))

  fresh_linked : CHUNKS_LEAST ≤ length t → Linked t
  fresh_linked h =
      let pd : prev_of t 0 ≡ 1 = ap (λ (r : Row). r.prev) f.desk in
      let nc : next_of t 1 ≡ 0 = ap (λ (r : Row). r.next) f.chunk in
      let pc : prev_of t 1 ≡ 0 = ap (λ (r : Row). r.prev) f.chunk in
      let g = ring_of (next_of t) (prev_of t) 1 (1 ∷ []) refl
      (record { fwd = next_is; bwd = pc }, record { fwd = nc; bwd = pd }) ((omega arith, omega arith), tt) in
      record { ring = rw count_is g.1; room = omega (arith, count_is) }

  -- no row names a piece or a byte, so nothing more is asked of the tables
  fresh_readable : (q k : List ℕ) → CHUNKS_LEAST ≤ length t → Readable t q k
  unfolding ReplacementIn
  fresh_readable q k h =
      let none : (a e : ℕ) → EntryIn q k (bare_entry a e) =
      λ a e. record { runs = record { intro = no_run_in q k 0; outro = no_run_in q k 0 }; replacement = λ n. absurd (n refl) } in
      record {
        linked = fresh_linked h;
        desk = subst (RunsIn q k) (sym desk_entry) (none 1 0).runs;
        chunks = rw order_is (cons (subst (EntryIn q k) (sym chunk_entry) (none 0 (length source))) nil);
      }

  -- any bound inside the tables is one of what the desk uses
  pub fresh_above : CHUNKS_LEAST ≤ length t → (l : Used) → l.pieces ≤ length p / PIECE_ROOM → l.row * 2 ≤ length p → l.byte ≤ length s → Above t p s l
  unfolding magic_string_of
  fresh_above h l few row byte =
      record {
        pieces = omega (arith, ap piece_count fresh_desk);
        few = few;
        readable = fresh_readable (take (l.row * 2) p) (take l.byte s) h;
        row = row;
        byte = byte;
      }

  fresh_spans : Spans t 1 (length source)
  fresh_spans =
      let a : chunk_starts_of t 0 ≡ 0 = ap (λ (e : Entry). e.start) chunk_entry in
      let e : ends_of t 0 ≡ length source = ap (λ (e : Entry). e.end) chunk_entry in
      record {
        empty = λ z. record { single = refl; start = a; end = e ∙ z };
        full = λ h.
            record {
              filled = only (λ i. (row_at t i).start < (row_at t i).end) (omega arith);
              inside = only (λ i. (row_at t i).end ≤ length source) (omega arith);
              cover = λ b l. rw (a, e) (omega (arith, indicator_in 0 (length source) b (omega arith) l));
            };
      }

  fresh_edges : utf8 source ≡ true → Edges source t 1
  fresh_edges u =
      only (λ i. Edged source (row_at t i).start (row_at t i).end)
      (record {
        start = ap (λ (e : Entry). between source e.start) chunk_entry ∙ between_zero source;
        end = ap (λ (e : Entry). between source e.end) chunk_entry ∙ between_past source (length source) u (omega arith);
      })

  -- a row without pieces and replacement uses no piece row and no byte
  none_used : (i a e : ℕ) → entry_at t i ≡ bare_entry a e → (j : ℕ) → piece_uses j (entry_at t i) ≡ 0
  none_used i a e q j = ap (piece_uses j) q ∙ omega (arith, among_none 0 j)

  no_byte : (i a e : ℕ) → entry_at t i ≡ bare_entry a e → (b : ℕ) → byte_uses p b (entry_at t i) ≡ 0
  no_byte i a e q b = ap (byte_uses p b) q ∙ omega (arith, uses-empty p s 0 b, no_uses b)

  fresh_placed : (size : ℕ) → Placed t p 1 size
  fresh_placed size =
      let x : (a e : ℕ) → EntryBelow p size (length p / 2) (bare_entry a e) =
      λ a e. record { intro = λ k h. absurd (omega arith); outro = λ k h. absurd (omega arith); text = λ h. absurd (h refl) } in
      let d = subst (EntryBelow p size (length p / 2)) (sym desk_entry) (x 1 0) in
      record {
        below = record {
          desk = (d.intro, d.outro);
          chunks = only (λ i. EntryBelow p size (length p / 2) (entry_at t i)) (subst (EntryBelow p size (length p / 2)) (sym chunk_entry) (x 0 (length source)));
        };
        apart = record {
          pieces = λ j. omega (arith, none_used 0 1 0 desk_entry j, none_used 1 0 (length source) chunk_entry j);
          bytes = λ b. omega (arith, no_byte 0 1 0 desk_entry b, no_byte 1 0 (length source) chunk_entry b);
        };
      }

  fresh_texts : TextsValid t p s 1
  fresh_texts =
      record {
        desk = subst (ListsValid p s) (sym desk_entry) (record { intro = run_empty p s 0; outro = run_empty p s 0 });
        chunks = only (λ i. ValidTexts (texts_of p s (entry_at t i)))
            (subst (λ (e : Entry). ValidTexts (texts_of p s e)) (sym chunk_entry) (record { intro = run_empty p s 0; outro = run_empty p s 0; replacement = text_none p s }));
      }

  fresh_count : piece_total t 1 ≤ length p / PIECE_ROOM
  fresh_count =
      let a : entry_piece_count (entry_at t 0) ≡ 0 = ap entry_piece_count desk_entry in
      let b : entry_piece_count (entry_at t 1) ≡ 0 = ap entry_piece_count chunk_entry in
      omega arith

  pub fresh_formed : Sized t p s → length source ≤ full.most_source → utf8 source ≡ true → WellFormed source t p s
  fresh_formed z h u =
      rows_formed source t p s
      (record {
        shaped = record { sized = z; fits = h };
        text = u;
        chunked = record {
          linked = fresh_linked z.some;
          spans = rw count_is fresh_spans;
          edges = rw count_is (fresh_edges u);
        };
        pieced = record { count = rw count_is fresh_count; placed = rw count_is (fresh_placed (length s)); texts = rw count_is fresh_texts };
      })

-- ── the answers ──
module _ (source : List ℕ) where
  pub opens_13 : full.most_source < length source → Opens source 13
  unfolding opened
  opens_13 h = record { number_is = rw (lt-leb (length source) full.most_source h) refl; fits = λ z. absurd (omega arith); text = λ z. absurd (omega arith) }

  pub opens_1 : length source ≤ full.most_source → utf8 source ≡ false → Opens source 1
  unfolding opened
  opens_1 h u = record { number_is = rw (le-leb (length source) full.most_source h, u) refl; fits = λ z. absurd (omega arith); text = λ z. absurd (omega arith) }

  pub opens_0 : length source ≤ full.most_source → utf8 source ≡ true → Opens source 0
  unfolding opened
  opens_0 h u = record { number_is = rw (le-leb (length source) full.most_source h, u) refl; fits = λ _. h; text = λ _. u }

pub new_desk : (source t p s t' : List ℕ) (u : Used) → Sized t p s → Opens source 0 → Fresh t t' (length source)
    → u.pieces ≤ length p / PIECE_ROOM → u.row * 2 ≤ length p → u.byte ≤ length s → NewDesk source t' p s u
new_desk source t p s t' u z o f few row byte =
    let z' : Sized t' p s = sized_as (record { chunks = f.same; pieces = refl; store = refl }) z in
    record {
      desk_is = fresh_desk t t' source p s f;
      desk = record { well_formed = fresh_formed t t' source p s f z' (o.fits refl) (o.text refl); above = fresh_above t t' source p s f z'.some u few row byte };
    }

-- a refusal has a number from 1 on
refusal_some : (r : Refusal) → code r ≡ 0 → ⊥
refusal_some NotUtf8 e = omega arith
refusal_some NotWellFormed e = omega arith
refusal_some InsideCharacter e = omega arith
refusal_some EndBeforeStart e = omega arith
refusal_some ZeroWidth e = omega arith
refusal_some CutInReplacement e = omega arith
refusal_some AcrossMovedEdge e = omega arith
refusal_some IntoItself e = omega arith
refusal_some NotTogether e = omega arith
refusal_some PastSource e = omega arith
refusal_some SliceStart e = omega arith
refusal_some SliceEnd e = omega arith
refusal_some Limit e = omega arith
refusal_some ShortBuffer e = omega arith
refusal_some BadOption e = omega arith
refusal_some BadSheet e = omega arith
refusal_some NoSuchCall e = omega arith
refusal_some NotApart e = omega arith
refusal_some RefusedAlone e = omega arith
refusal_some Frozen e = omega arith
refusal_some MarksTooHigh e = omega arith

module _ (source t p s : List ℕ) where
  number_with : {n : ℕ} → Opens source n → n ≡ (opened (limits_of t p s) source (new [])).number
  unfolding opened
  number_with h = h.number_is

  -- nothing is written
  pub opened_refused : (r : Refusal) → Opens source (code r) → (u : Used) → OpenedWith source t p s t (record { status = Err r; cuts = 0; used = u })
  opened_refused r n u = record { number_is = number_with n; no_cuts = refl; desk = λ z. absurd (refusal_some r z); refused = λ _. refl }

  pub opened_0 : (t' : List ℕ) → Opens source 0 → (u : Used) → NewDesk source t' p s u → OpenedWith source t p s t' (record { status = Ok tt; cuts = 0; used = u })
  opened_0 t' n u d = record { number_is = number_with n; no_cuts = refl; desk = λ _. d; refused = λ h. absurd (h refl) }
