-- `update_with` on the lent tables themselves: the cuts and clears of their rows, and the replacement above all texts in use.
use mathlib.Core.Path.{◌≡◌, refl, sym, ap, ap₂, ◌∙◌, subst}
use mathlib.Core.Bool.{Bool, true}
use mathlib.Core.List.{List, [], ◌++◌, append-nil}
use Prim.Native.Nat.{ℕ, ◌+◌, ◌-◌, ◌*◌, ◌/◌, ◌≤◌, ◌<◌}
use native.Mathlib.Omega.{arith}
use native.Mathlib.Decide.{ℕ_discrete}
use lib.Dec.{eqb}
use lib.ListN.{length, take, drop, length-take, take-append-drop}
use lib.Seq.{length-take-le}
use Rattle.memory_layout.specs.Layout.{ROW, NONE}
use Rattle.memory_table.specs.Order.{entries, count_of}
use Rattle.model.specs.MagicString.{MagicString}
use Rattle.model.specs.Limits.{within, piece_count, byte_count, replacement_bytes}
use Rattle.model.specs.Call.{update_with, refused_before}
use Rattle.memory.specs.Layout.{Place, replacement_of, magic_string_of}
use Rattle.memory.specs.WellFormed.{limits_of, Readable, WellFormed, Disjoint, among, run_uses, replacement_uses}
use Rattle.memory.specs.Calls.{Ran}
use Rattle.memory.proofs.Desks.{chunk_count, source_of, keeps_within}
use Rattle.edit_row_laws.proofs.Counted.{nothing, counts_rows, counts_store, sum_lists}
use Rattle.edit_row_laws.proofs.Kept.{own_lists}
use Rattle.model_closed_forms.specs.Spans.{Cover}
use Rattle.model.proofs.Lists.{bool-elim}
use Rattle.edit_scratch.proofs.Front.{desk_front}
use Rattle.edit_scratch.specs.Tables.{Did}
use Rattle.edit_in_place.proofs.InPlace.{ran_in_place}
use Rattle.edit_split_at.specs.Cuts.{Spans}
use Rattle.edit_split_at.proofs.Cuts.{formed_spans}
use Rattle.memory_used.specs.declared.Used.{Used}
use Rattle.memory_used.specs.declared.Outcome.{Outcome}
use Rattle.memory_used.specs.Above.{Above}
use Rattle.memory_texts.proofs.Over.{take_over, take_over_all}
use Rattle.edit_room_above.specs.Live.{Room}
use Rattle.edit_room_above.proofs.Bounds.{read_below}
use Rattle.edit_room_above.proofs.Apart.{row_uses, store_uses, apart_after, store_uses_front}
use Rattle.edit_room_above.proofs.Finishing.{bytes_below}
use Rattle.edit_update_steps.specs.Steps.{update_past}
use Rattle.edit_update_steps.proofs.Steps.{update_is}
use Rattle.edit_update_steps.specs.Replaced.{Replaced}
use Rattle.edit_update_steps.proofs.Replaced.{replaced_pieces, replaced_bytes}
use Rattle.edit_update_steps.specs.Stored.{stored, UpdateSteps}
use Rattle.edit_update_steps.proofs.Stored.{stored_none, steps_did}
use Rattle.edit_update.specs.Calls.{Settled}

-- ── rows and bytes stay apart ──
text_uses : (b : ℕ) (x : Place) → replacement_uses b x ≤ among x b
unfolding replacement_uses
text_uses b x = bool-elim (eqb x.0 NONE) (λ e. rw e (omega arith)) (λ e. rw e (omega arith))

module _ (t t' P S : List ℕ) (row byte n : ℕ) (h : Readable t (take (row * 2) P) (take byte S)) (hr : row * 2 ≤ length P) (hb : byte ≤ length S) (k : Replaced t t' (byte, n)) where
  abbrev p : List ℕ
  p = take (row * 2) P

  abbrev y : List ℕ
  y = drop (row * 2) P

  rows : (j : ℕ) → row_uses t' j ≤ row_uses t j
  rows j =
      omega (
        arith,
        own_lists t t' k.desk (λ r. among r j),
        sum_lists (λ r. among r j) (entries t),
        sum_lists (λ r. among r j) (entries t'),
        k.less (λ r. among r j) nothing (counts_rows j),
      )

  bytes : (b : ℕ) → store_uses t' (p ++ y) b ≤ store_uses t p b + among (byte, n) b
  bytes b =
      omega (
        arith,
        own_lists t t' k.desk (run_uses (p ++ y) b),
        k.less (run_uses (p ++ y) b) (replacement_uses b) (counts_store (p ++ y) b),
        text_uses b (byte, n),
        store_uses_front p (take byte S) y b t h,
      )

  replaced_apart : Disjoint t P → Disjoint t' P
  replaced_apart d =
      subst (Disjoint t') (take-append-drop (row * 2) P)
      (apart_after t t' p (take byte S) y y (length P, 0) (byte, n) h (subst (Disjoint t) (sym (take-append-drop (row * 2) P)) d)
      (omega (arith, length-take-le (row * 2) P hr)) (omega (arith, length-take-le byte S hb)) (λ j. omega (arith, rows j)) bytes)

-- ── the limits ──
stored_text : (r : ℕ) (text : List ℕ) → r ≡ 0 → stored r text ≡ text
stored_text r text h = rw h

stored_most : (r : ℕ) (text : List ℕ) → length (stored r text) ≤ length text
stored_most r text = bool-elim (eqb r 0) (λ e. rw e (omega arith)) (λ e. rw e (omega arith))

text_few : (s : List ℕ) (x : Place) → replacement_bytes (replacement_of s x) ≤ x.1
unfolding replacement_of
text_few s x = bool-elim (eqb x.0 NONE) (λ e. rw e (omega arith)) (λ e. rw e (simp length-take (omega arith)))

module _ {a b : ℕ} {text : List ℕ} {o : Bool} {n m : ℕ} {source t P S t' S' : List ℕ} {l : Used} {r c : ℕ} (w : WellFormed source t P S) (lv : Above t P S l)
    (rm : Room (length t) (length P) (length S) l m (length text)) (x : UpdateSteps a b text o n l.byte t S t' S' r c) where
  -- the rows and bytes in use
  abbrev rows_used : List ℕ
  rows_used = take (l.row * 2) P

  abbrev bytes_used : List ℕ
  bytes_used = take l.byte S

  -- the desk before, with the store after
  before : magic_string_of [] t P S' ≡ magic_string_of [] t P S
  before =
      let same = ap (take l.byte) x.store ∙ take_over S l.byte (stored r text) lv.byte in
      let e : S' ≡ bytes_used ++ drop l.byte S' = sym (take-append-drop l.byte S') ∙ ap (λ (u : List ℕ). u ++ drop l.byte S') same in
      ap₂ (λ (u v : List ℕ). magic_string_of [] t u v) (sym (take-append-drop (l.row * 2) P)) e
      ∙ (desk_front rows_used bytes_used (drop (l.row * 2) P) (drop l.byte S') t lv.readable).1 []
      ∙ sym (read_below t P S l.row l.byte lv.readable [])

  few_pieces : piece_count (magic_string_of [] t' P S') ≤ l.pieces
  few_pieces = omega (arith, replaced_pieces x.replaced P S', ap piece_count before, lv.pieces)

  -- all texts lie below the byte, and the new one from there on
  replaced_within : count_of t' ≤ length t / ROW - 1 → within (limits_of t P S) (magic_string_of [] t' P S') ≡ true
  replaced_within few =
      let texts = bytes_below w.disjoint lv in
      keeps_within
      (record {
        source = rw (source_of [] t' P S') (omega arith);
        chunks = rw (chunk_count [] t' P S') few;
        pieces = omega (arith, few_pieces, rm.pieces);
        bytes = omega (arith, replaced_bytes x.replaced P S', text_few S' (l.byte, length text), ap byte_count before, texts, rm.places);
      })
      -- ── the steps below the bound ──

  module _ (ln : length source ≡ n) where
    spans : Spans source t rows_used bytes_used
    spans = subst (λ (m : MagicString). Cover source m.chunks) (read_below t P S l.row l.byte lv.readable source) (formed_spans w)

    no_13 : r ≡ 13 → ⊥
    no_13 = x.short (omega (arith, rm.places, w.sized.store))

    -- what was stored lies between the bound and the byte behind it
    stored_above : length S' ≡ length S → (byte : ℕ) → byte ≡ l.byte + length (stored r text) → Above t' P S' (record { pieces = l.pieces; row = l.row; byte = byte })
    stored_above ls byte eb =
        let d = x.leave no_13 source rows_used bytes_used [] [] ln lv.readable spans (length-take-le l.byte S lv.byte) in
        let e : take byte S' ≡ bytes_used ++ (stored r text ++ []) =
        ap₂ take eb x.store ∙ take_over_all S l.byte (stored r text) lv.byte ∙ ap (λ (u : List ℕ). bytes_used ++ u) (sym (append-nil (stored r text))) in
        record {
          pieces = few_pieces;
          few = lv.few;
          readable = rw e (subst (λ (u : List ℕ). Readable t' u (bytes_used ++ (stored r text ++ []))) (append-nil rows_used) d.readable);
          row = lv.row;
          byte = omega (arith, rm.places, stored_most r text);
        }

    -- ── the call ──
    pub update_top_ran : a < b → m ≡ count_of t + 2 → refused_before (magic_string_of source t P S) (update_with a b text o) ≡ 0 → length t' ≡ length t → length S' ≡ length S
        → Ran (update_with a b text o) source t P S t' P S' r c
    update_top_ran ab em h lt ls =
        let same = read_below t P S l.row l.byte lv.readable source in
        let g : Did (update_past a b text o) source t rows_used bytes_used t' P S' r c =
        subst (λ (u : List ℕ). Did (update_past a b text o) source t rows_used bytes_used t' u S' r c) (take-append-drop (l.row * 2) P)
        (steps_did x no_13 source rows_used bytes_used (drop (l.row * 2) P) (drop l.byte S) ln lv.readable spans (sym (take-append-drop l.byte S)) (length-take-le l.byte S lv.byte)) in
        ran_in_place w h
        (record { readable = g.readable; result = update_is a b text o (magic_string_of source t P S) ab ∙ ap (update_past a b text o) same ∙ g.result; cuts = g.cuts })
        (x.writes no_13)
        (record { chunks = lt; pieces = refl; store = ls })
        (x.replaced.each w.each)
        (replaced_apart t t' P S l.row l.byte (length text) lv.readable lv.row lv.byte x.replaced w.disjoint)
        (replaced_within (omega (arith, x.count, rm.chunks)))

    -- the bound that the call hands back
    pub update_top_above : {out : Outcome} {end : ℕ} → length S' ≡ length S → end ≡ l.byte + length text → Settled r c l end out → Above t' P S' out.used
    update_top_above {end = end} ls ee q =
        elim (ℕ_discrete r 0) [
          | yes e ↦ rw (q.came e) (stored_above ls end (omega (arith, ap length (stored_text r text e))))
          | no e ↦ rw (q.refused e) (stored_above ls l.byte (omega (arith, ap length (stored_none r text e))))
        ]
