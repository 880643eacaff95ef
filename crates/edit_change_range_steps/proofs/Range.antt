-- Laws of what `Range` in specs/ defines.
use mathlib.Core.Path.{◌≡◌, refl, sym, ap, ap₂, ◌∙◌, subst}
use mathlib.Core.Bool.{Bool, true, false, ◌||◌, cond}
use mathlib.Core.List.{List, [], ◌∷◌, map}
use mathlib.Core.Option.{none, some}
use mathlib.Core.Logic.{inl, inr, ⊎_elim}
use Prim.Native.Nat.{ℕ, ◌<◌}
use native.Mathlib.Omega.{arith}
use lib.Dec.{eqb}
use lib.ListN.{length}
use Rattle.utf8.specs.Chars.{All, nil, cons}
use Rattle.memory_table.specs.Order.{Entry, entries}
use Rattle.model.specs.Text.{any}
use Rattle.model.specs.Chunk.{Chunk}
use Rattle.model.specs.MagicString.{MagicString, Result, ok, err, with_chunks}
use Rattle.model.specs.Frozen.{has_frozen, freeze_chunk, freeze_range}
use Rattle.model.specs.Movement.{change_by_position, change_range}
use Rattle.model.specs.Call.{Edit, asked, idle}
use Rattle.model.proofs.Lists.{first_of, bool-elim, clash, no_tf}
use Rattle.memory_layout.specs.Layout.{NONE}
use Rattle.memory.specs.Layout.{replacement_of, chunk_of, magic_string_of}
use Rattle.memory.specs.WellFormed.{ReplacementIn, EntryIn, Readable, WellFormed}
use Rattle.memory.specs.Calls.{may_write}
use Rattle.memory.proofs.Desks.{chunks_of, no_run, no_run_in}
use Rattle.model.proofs.Lists as lists
use Rattle.model_closed_forms.proofs.Cuts.{Contains, cut_all_aligned}
use Rattle.model_closed_forms.proofs.ByPosition.{in_range, by_position}
use Rattle.model_closed_forms.specs.Spans.{Cover}
use Rattle.model_closed_forms.specs.SplitAt.{cuts_then}
use Rattle.memory_list.specs.declared.Change.{Change}
use Rattle.memory_list.specs.declared.Change.TheVariants.{Clear, Freeze}
use Rattle.memory_list.specs.Changes.{changed_by, entry_starts_in, change_in, ChangeDone}
use Rattle.memory_list.specs.Insert.{runs_of}
use Rattle.memory_list.proofs.Insert.{start_f}
use Rattle.memory_frozen.proofs.Frozen.{frozen_within}
use Rattle.memory_used.specs.declared.Used.{Used}
use Rattle.memory_used.specs.Above.{Above}
use Rattle.edit_row_laws.proofs.Kept.{kept_then}
use Rattle.edit_row_laws.proofs.Steps.{change_kept}
use Rattle.edit_rebuild.specs.Rebuilt.{Finished}
use Rattle.edit_scratch.specs.Loaded.{Loaded}
use Rattle.edit_scratch.specs.Tables.{Scratch}
use Rattle.edit_scratch.proofs.Tables.{did_loaded, loaded_readable, with_scratch, ran_finished, may_write_busy}
use Rattle.edit_in_place.proofs.InPlace.{ran_rows, above_kept}
use Rattle.edit_split_at.proofs.Lift.{Reordered, still_readable, with_entries}
use Rattle.edit_split_at.specs.Cuts.{Spans, CutsDone}
use Rattle.edit_split_at.proofs.Cuts.{cuts_spans, formed_spans, loaded_spans, stop}
use Rattle.edit_change_range_steps.specs.Range.{cleared_to, change_of, refusals, EmptyAt, change_refused_by, ChangeTried, RangeDone, RangeRan}

-- ── the model's steps as the cuts and what is done behind them ──
-- whether the desk's range is refused, and its chunks where it is not
abbrev stopped : Change → ℕ → ℕ → MagicString → Bool
stopped (Clear v) a b m = has_frozen a b m
stopped Freeze a b m = false

abbrev chunks_after : Change → ℕ → ℕ → MagicString → List Chunk
chunks_after (Clear v) a b m = change_by_position (length m.chunks) (cleared_to v) a b m.chunks
chunks_after Freeze a b m = map (freeze_chunk a b) m.chunks

abbrev behind : Change → ℕ → ℕ → MagicString → Result
behind x a b m = cond (stopped x a b m) (err 20 m) (ok (with_chunks m (chunks_after x a b m)))

cut_first : (x : Change) (a b : ℕ) (m : MagicString) → change_of x a b m ≡ cuts_then (a ∷ b ∷ []) (behind x a b) m
unfolding change_range freeze_range
cut_first (Clear v) a b m = refl
cut_first Freeze a b m = refl

stopped_by : (x : Change) (a b : ℕ) (source t p s : List ℕ) → change_refused_by x a b t ≡ stopped x a b (magic_string_of source t p s)
stopped_by (Clear v) a b source t p s = frozen_within source t p s a b
stopped_by Freeze a b source t p s = refl

-- ── on entries ──
place_of : (s : List ℕ) (v : ℕ) → replacement_of s (v, 0) ≡ cond (eqb v NONE) none (some [])
unfolding replacement_of
place_of s v = refl

empty_in : (s : List ℕ) (v : ℕ) → EmptyAt (Clear v) → ReplacementIn s (v, 0)
unfolding ReplacementIn
empty_in s v (inl h) n = omega arith
empty_in s v (inr h) n = absurd (n h)

-- what a chunk of the range becomes
abbrev changed_chunk : Change → ℕ → ℕ → Chunk → Chunk
changed_chunk (Clear v) a b = in_range a b (cleared_to v)
changed_chunk Freeze a b = freeze_chunk a b

module _ (p s : List ℕ) (a b : ℕ) where
  lift_one : (x : Change) (e : Entry) → chunk_of p s (change_in x a b e) ≡ changed_chunk x a b (chunk_of p s e)
  lift_one (Clear v) e = bool-elim (entry_starts_in a b e) (λ k. rw (k, no_run p s 0, place_of s v)) (λ k. rw k)
  lift_one Freeze e = bool-elim (entry_starts_in a b e) (λ k. rw k) (λ k. rw k)

  changed_in : (x : Change) → EmptyAt x → (e : Entry) → EntryIn p s e → EntryIn p s (changed_by x e)
  changed_in (Clear v) k e h = record { runs = record { intro = no_run_in p s 0; outro = no_run_in p s 0 }; replacement = empty_in s v k }
  changed_in Freeze k e h = record { runs = record { intro = h.runs.intro; outro = h.runs.outro }; replacement = h.replacement }

  module _ (x : Change) where
    lift_change : (es : List Entry) → map (chunk_of p s) (map (change_in x a b) es) ≡ map (changed_chunk x a b) (map (chunk_of p s) es)
    lift_change [] = refl
    lift_change (e ∷ es) = ap₂ (λ (y : Chunk) (l : List Chunk). y ∷ l) (lift_one x e) (lift_change es)

    module _ (k : EmptyAt x) where
      in_one : (e : Entry) → EntryIn p s e → EntryIn p s (change_in x a b e)
      in_one e h = bool-elim (entry_starts_in a b e) (λ y. rw y (changed_in x k e h)) (λ y. rw y h)

      in_change : {es : List Entry} → All (EntryIn p s) es → All (EntryIn p s) (map (change_in x a b) es)
      in_change nil = nil
      in_change (cons {x = e} h l) = cons (in_one e h) (in_change l)

-- the chunks of a range that is cut at both ends
after_cuts : (x : Change) (a b : ℕ) (m : MagicString) → a < b → {source : List ℕ} → Cover source m.chunks → All (λ c. Contains a c → ⊥) m.chunks
    → chunks_after x a b m ≡ map (changed_chunk x a b) m.chunks
after_cuts (Clear v) a b m ab sp al = by_position (cleared_to v) a b ab sp al
after_cuts Freeze a b m ab sp al = refl

-- ── the rows of the range ──
pub tried_refused : {x : Change} {a b : ℕ} {t : List ℕ} → change_refused_by x a b t ≡ true → ChangeTried x a b t t 20
tried_refused f = record { refused = λ _. (refl, refl); changed = λ g. clash f g }

pub tried_changed : {x : Change} {a b : ℕ} {t t' : List ℕ} → change_refused_by x a b t ≡ false → ChangeDone x a b t t' → ChangeTried x a b t t' 0
tried_changed f d = record { refused = λ g. clash g f; changed = λ _. (refl, d) }

-- ── the steps ──
pub range_refused : (x : Change) (a b : ℕ) (t t' : List ℕ) (r c : ℕ) → CutsDone (a ∷ b ∷ []) t t' r c → (r ≡ 0 → ⊥) → RangeDone x a b t t' r c
range_refused x a b t t' r c d n =
    record {
      leave = λ source p s h sp.
          let k = d.leave source p s h sp in
          record {
            readable = k.readable;
            result = cut_first x a b (magic_string_of source t p s) ∙ k.result (behind x a b) ∙ stop r (magic_string_of source t' p s) (behind x a b) n;
            cuts = d.count;
          };
      readable = d.readable;
      number = ⊎_elim (λ z. absurd (n z)) (λ z. six x z) d.number;
      kept = d.kept;
    }
  where
    six : (y : Change) → r ≡ 6 → eqb r 0 || any (eqb r) (refusals y) ≡ true
    six (Clear v) z = rw z
    six Freeze z = rw z

module _ (x : Change) (a b : ℕ) (t t1 : List ℕ) (k : ℕ) (d : CutsDone (a ∷ b ∷ []) t t1 0 k) where
  -- the cuts are made, and this is what is done behind them
  behind_cuts : (source p s : List ℕ) → Readable t p s → Spans source t p s → change_of x a b (magic_string_of source t p s) ≡ behind x a b (magic_string_of source t1 p s)
  behind_cuts source p s h sp = cut_first x a b (magic_string_of source t p s) ∙ (d.leave source p s h sp).result (behind x a b)

  frozen_number : (y : Change) → change_refused_by y a b t1 ≡ true → any (eqb 20) (refusals y) ≡ true
  frozen_number (Clear v) f = refl
  frozen_number Freeze f = no_tf (sym f)

  range_frozen : change_refused_by x a b t1 ≡ true → RangeDone x a b t t1 20 k
  range_frozen f =
      record {
        leave = λ source p s h sp.
            let q : stopped x a b (magic_string_of source t1 p s) ≡ true = sym (stopped_by x a b source t1 p s) ∙ f in
            record { readable = d.readable p s h; result = behind_cuts source p s h sp ∙ rw q; cuts = d.count };
        readable = d.readable;
        number = frozen_number x f;
        kept = d.kept;
      }

  module _ (t2 : List ℕ) (ab : a < b) (mk : EmptyAt x) (c : ChangeDone x a b t1 t2) where
    changed : Reordered t1 t2 (map (change_in x a b) (entries t1))
    changed = record { linked = c.linked; chunks = c.chunks; desk = ap runs_of c.desk }

    changed_readable : (p s : List ℕ) → Readable t1 p s → Readable t2 p s
    changed_readable p s h = still_readable t1 p s t2 h changed (in_change p s a b x mk h.chunks)

    changed_desk : (source p s : List ℕ) → Readable t p s → Spans source t p s
        → magic_string_of source t2 p s ≡ with_chunks (magic_string_of source t1 p s) (chunks_after x a b (magic_string_of source t1 p s))
    changed_desk source p s h sp =
        let l = d.leave source p s h sp in
        let m1 = magic_string_of source t1 p s in
        let al : All (λ y. Contains a y → ⊥) m1.chunks =
        subst (All (λ y. Contains a y → ⊥)) (sym (l.chunks refl)) (lists.all_map (λ y z. first_of z) (cut_all_aligned (a ∷ b ∷ []) (magic_string_of source t p s).chunks)) in
        with_entries t1 p s t2 l.readable changed source
        ∙ ap (with_chunks m1)
        (lift_change p s a b x (entries t1)
        ∙ ap (map (changed_chunk x a b)) (sym (chunks_of source t1 p s))
        ∙ sym (after_cuts x a b m1 ab (cuts_spans l refl sp) al))

    range_done : change_refused_by x a b t1 ≡ false → RangeDone x a b t t2 0 k
    range_done f =
        record {
          leave = λ source p s h sp.
              let q : stopped x a b (magic_string_of source t1 p s) ≡ false = sym (stopped_by x a b source t1 p s) ∙ f in
              record {
                readable = changed_readable p s (d.readable p s h);
                result = behind_cuts source p s h sp ∙ rw q (ap ok (sym (changed_desk source p s h sp)));
                cuts = omega (arith, d.count, ap start_f c.desk);
              };
          readable = λ p s h. changed_readable p s (d.readable p s h);
          number = refl;
          kept = kept_then d.kept (change_kept x a b t1 t2 c);
        }

pub range_tried : (x : Change) (a b : ℕ) (t t1 t2 : List ℕ) (z k r : ℕ) → a < b → EmptyAt x → CutsDone (a ∷ b ∷ []) t t1 z k → z ≡ 0 → ChangeTried x a b t1 t2 r → RangeDone x a b t t2 r k
range_tried x a b t t1 t2 z k r ab mk d e h =
    let d' : CutsDone (a ∷ b ∷ []) t t1 0 k = rw e at d in
    bool-elim (change_refused_by x a b t1)
    (λ f. let g = h.refused f in rw (g.0, g.1) (range_frozen x a b t t1 k d' f))
    (λ f. let g = h.changed f in rw g.0 (range_done x a b t t1 k d' t2 ab mk g.1 f))

-- ── the call, for any of the edits ──
-- which answers may write
range_writes : {x : Change} {a b : ℕ} {t t' : List ℕ} {r c : ℕ} → RangeDone x a b t t' r c → (e : Edit) → idle e ≡ false → (asked e).leaving ≡ refusals x → may_write e r ≡ true
range_writes {r = r} d e i j = may_write_busy e r i (rw j d.number)

-- on the lent rows themselves, where there is room for two chunks more
pub range_in_place : {x : Change} {a b : ℕ} {source t p s t' : List ℕ} {r c : ℕ} → WellFormed source t p s → RangeDone x a b t t' r c → length t' ≡ length t
    → RangeRan x a b source t p s t' p s r c
range_in_place {source = source} {p = p} {s = s} w d len e h q i j =
    let g = d.leave source p s w.readable (formed_spans w) in
    ran_rows w h (record { readable = g.readable; result = q ∙ g.result; cuts = g.cuts }) (range_writes d e i j) len d.kept

-- the bound of what the desk uses stays
pub range_above : {x : Change} {a b : ℕ} {t p s t' : List ℕ} {r c : ℕ} {l : Used} → RangeDone x a b t t' r c → Above t p s l → Above t' p s l
range_above d h = above_kept d.kept (d.readable _ _ h.readable) h

-- on scratch rows
pub range_ran : {x : Change} {a b : ℕ} {source t p s t₀ p₀ s₀ t1 p1 s1 t2 t' p' s' : List ℕ} {r c r' c' : ℕ} → WellFormed source t p s → Scratch t₀ p₀ s₀ → Loaded t p s t₀ p₀ s₀ t1 p1 s1
    → RangeDone x a b t1 t2 r c → Finished t2 p1 s1 t p s t' p' s' r c r' c' → RangeRan x a b source t p s t' p' s' r' c'
range_ran {source = source} {p = p} {s = s} w f l d y e h q i j =
    let g = did_loaded w f l (d.leave source p s (loaded_readable w f l) (loaded_spans w f l)) in
    ran_finished w h (record { readable = g.readable; result = q ∙ g.result; cuts = g.cuts }) (range_writes d e i j) y

pub range_readable : {x : Change} {a b : ℕ} {source t p s t₀ p₀ s₀ t1 p1 s1 t2 : List ℕ} {r c : ℕ} → WellFormed source t p s → Scratch t₀ p₀ s₀ → Loaded t p s t₀ p₀ s₀ t1 p1 s1
    → RangeDone x a b t1 t2 r c → Readable t2 p1 s1
range_readable {p = p} {s = s} {t2 = t2} w f l d = with_scratch w f l t2 (d.readable p s (loaded_readable w f l))
