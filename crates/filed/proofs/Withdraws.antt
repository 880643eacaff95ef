-- A call withdrawn, and a number that no call has.
use Prim.Native.Nat.{ℕ, zero, suc, ◌+◌, ◌-◌, ◌≤◌, ◌<◌}
use mathlib.Core.Path.{◌≡◌, refl, sym, ap, ap₂, subst, ◌∙◌}
use mathlib.Core.List.{List, [], ◌∷◌}
use mathlib.Core.Option.{Option, some}
use native.Mathlib.Omega.{arith}
use lib.ListN.{length, take, drop, length-drop}
use lib.Seq.{take_at}
use Rattle.memory_layout.specs.Layout.{RECORD_ANSWERS, RECORD_MARKS}
use Rattle.memory_texts.specs.Over.{over}
use Rattle.model.specs.MagicString.{MagicString}
use Rattle.model.specs.Limits.{Limits}
use Rattle.model.specs.Call.{after, answers}
use Rattle.model_sheet.specs.Record.{Recorded, records}
use Rattle.model_sheet.specs.Sheet.{recorded_calls}
use Rattle.model_sheet.proofs.Runs.{answers_length}
use Rattle.model_filed.specs.Filed.{Entry, calls, marks_of, entries_with, Sitting, Answered, MOST_CALLS, without, run_anew, no_such_call, withdraw}
use Rattle.model_filed.proofs.Filing.{with_length, marks_taken, found_range, withdraw_refused, withdraw_done}
use Rattle.memory.specs.Layout.{magic_string_of}
use Rattle.memory.specs.WellFormed.{limits_of, Lengths, WellFormed, Taken}
use Rattle.memory.proofs.Desks.{limits_as}
use Rattle.sheet_records.specs.Found.{Counted}
use Rattle.sheet_run.specs.RanAll.{RanRecords}
use Rattle.filed_record.specs.declared.Size.{Size}
use Rattle.filed_record.specs.Record.{record_answers_of, record_marks_of, kept_chunks, kept_pieces, kept_store, kept_of, entries_of, KeptTaken, Holds}
use Rattle.filed_record.specs.Judged.{NoSuchCall}
use Rattle.filed_record.specs.Promises.{sitting_of, KeptBehind, SameKept, WithdrawnOn}
use Rattle.filed_record.proofs.Holding.{entries_are}
use Rattle.filed_record.proofs.Kept.{same_kept_desk, same_kept_tables, kept_any}
use Rattle.filed_entries.specs.Entries.{EntryOut}
use Rattle.filed_entries.proofs.Out.{others, marks_left, out_calls, out_same_kept, new_entries, new_kept, new_same_kept}
use Rattle.filed_kept.specs.Kept.{PutBack}
use Rattle.filed.specs.Done.{RunAnew, RunsAnew, Withdraws}
use Rattle.filed.proofs.Files.{unchanged_all, held, held_calls, held_count, becomes_same}

-- ── the others, run ──
pub counted_lent : (b : List ℕ) (u : ℕ) {n : ℕ} → Counted (take u b) MOST_CALLS n → Counted (take (u - 0) b) MOST_CALLS n
counted_lent b u {n} c = subst (λ i. Counted (take i b) MOST_CALLS n) (let e : u ≡ u - 0 = omega arith in e) c

pub runs_anew : {source t p s t' p' s' b' a a' : List ℕ} {n : ℕ} (b : List ℕ) (u : ℕ) → Counted (take u b) MOST_CALLS n → RanRecords (take (u - 0) b) source t p s a t' p' s' a'
    → b' ≡ over b RECORD_ANSWERS (take (n - 0) a') → RunsAnew u source t p s b t' p' s' b'
runs_anew {source} {t} {p} {s} {a = a} {n = n} b u c x e list q =
    let same : u - 0 ≡ u = omega arith in
    let y = x list (ap (λ i. records (take i b)) same ∙ q) in
    let ns = answers (limits_of t p s) (recorded_calls list) (magic_string_of source t p s) in
    let alike : c.list ≡ list = (let are = c.are in cc) in
    let n-is : length ns ≡ n - 0 = omega (arith, answers_length (limits_of t p s) list (magic_string_of source t p s), ap length alike, c.count) in
    record {
      desk_is = y.desk_is;
      bytes_are = e ∙ ap (over b RECORD_ANSWERS) (ap (take (n - 0)) y.answers_are ∙ take_at ns (drop (length list) a) (n - 0) n-is);
      well_formed = y.well_formed;
    }

module _ {w b : List ℕ} {z : Size} (h : Holds w b z) (k : ℕ) {n : ℕ} (j : NoSuchCall k z.count n) where
  refuses : no_such_call k (held h) ≡ n
  refuses = j (held h) (held_count h)

  pub withdraws_refused : {source t p s : List ℕ} → WellFormed source t p s → (n ≡ 0 → ⊥) → Withdraws k source t p s w b t p s w b (record { number = n; value = 0 })
  withdraws_refused {source} {t} {p} {s} wf never l e kt =
      subst (λ x. WithdrawnOn k source t p s w b t p s w b x (record { number = n; value = 0 })) (sym (entries_are h l e)) (go n refl)
    where
      go : (m : ℕ) → n ≡ m → WithdrawnOn k source t p s w b t p s w b (held h) (record { number = n; value = 0 })
      go zero q = absurd (never q)
      go (suc m) q =
          let x = sitting_of source t p s w b (held h) in
          record {
            becomes = becomes_same h wf (subst (KeptTaken source w b) (entries_are h l e) kt) (withdraw (limits_of t p s) k x) (suc m)
                (withdraw_refused (limits_of t p s) k x m (refuses ∙ q)) q refl;
            refused = λ _. unchanged_all t p s w b;
            same_kept = record { tables = refl; store = refl };
          }

  module _ (done : n ≡ 0) where
    pub withdraw_range : (0 < k) × (k ≤ z.count)
    withdraw_range = let r = found_range k (held h) (refuses ∙ done) in (r.0, omega (arith, r.1, held_count h))

    -- the place of the k-th call is behind k - 1 others
    pub withdraw_place : {i : ℕ} → i + 1 ≡ k → i < z.count
    withdraw_place e = omega (arith, withdraw_range.1)

    module _ {i : ℕ} (place : i + 1 ≡ k) {w₁ b₁ : List ℕ} {u : ℕ} (e : EntryOut i z w b w₁ b₁ u) where
      abbrev few : i < z.count
      few = withdraw_place place

      -- the calls that are left
      abbrev left : List Recorded
      left = without k (calls (held h))

      others_as : others h few e ≡ left
      others_as = ap₂ (λ m l. without m l) place (sym (held_calls h))

      -- and their marks
      abbrev left_marks : List ℕ
      left_marks = without k (marks_of (held h))

      marks_as : marks_left h few e ≡ left_marks
      marks_as =
          ap₂ (λ m l. without m l) place
          (ap (λ n. take n (record_marks_of b)) (sym h.count)
          ∙ sym (marks_taken h.list (record_answers_of b) (record_marks_of b) (omega (arith, h.count, h.few, h.bytes, length-drop RECORD_MARKS b))))

      -- the tables that are put back are those that were kept
      pub back_tables : {t₁ p₁ s₁ : List ℕ} → PutBack w₁ b₁ t₁ p₁ s₁ → (P : List ℕ → List ℕ → List ℕ → Type 0) → P (kept_chunks w) (kept_pieces w) (kept_store b) → P t₁ p₁ s₁
      back_tables {t₁} {p₁} {s₁} r P x =
          subst (λ y. P y p₁ s₁) (sym r.chunks)
          (subst (λ y. P (kept_chunks w₁) y s₁) (sym r.pieces)
          (subst (P (kept_chunks w₁) (kept_pieces w₁)) (sym r.store) (same_kept_tables (out_same_kept h few e) P x)))

      module _ {source t p s t₁ p₁ s₁ t' p' s' b₂ : List ℕ} (back : PutBack w₁ b₁ t₁ p₁ s₁) (long : Lengths t p s t₁ p₁ s₁) (x : RunsAnew u source t₁ p₁ s₁ b₁ t' p' s' b₂)
          (same : length w₁ ≡ length w) (lengths : Lengths t p s t' p' s') where
        abbrev m : Limits
        m = limits_of t p s

        abbrev start : MagicString
        start = kept_of source w b

        ran : RunAnew (others h few e) source t₁ p₁ s₁ b₁ t' p' s' b₂
        ran = x (others h few e) (out_calls h few e)

        start_is : magic_string_of source t₁ p₁ s₁ ≡ start
        start_is = back_tables back (λ x y c. magic_string_of source x y c ≡ kept_of source w b) refl

        limits : limits_of t₁ p₁ s₁ ≡ m
        limits = limits_as {t = t} {p = p} {s = s} {t' = t₁} {p' = p₁} {s' = s₁} long

        -- the run is the model's
        desk : after (limits_of t₁ p₁ s₁) (recorded_calls (others h few e)) (magic_string_of source t₁ p₁ s₁) ≡ after m (recorded_calls left) start
        desk = ap₂ (λ a c. after a (recorded_calls (others h few e)) c) limits start_is ∙ ap (λ c. after m (recorded_calls c) start) others_as

        numbers : answers (limits_of t₁ p₁ s₁) (recorded_calls (others h few e)) (magic_string_of source t₁ p₁ s₁) ≡ answers m (recorded_calls left) start
        numbers = ap₂ (λ a c. answers a (recorded_calls (others h few e)) c) limits start_is ∙ ap (λ c. answers m (recorded_calls c) start) others_as

        long_answers : length (answers (limits_of t₁ p₁ s₁) (recorded_calls (others h few e)) (magic_string_of source t₁ p₁ s₁)) ≡ length (others h few e)
        long_answers = answers_length (limits_of t₁ p₁ s₁) (others h few e) (magic_string_of source t₁ p₁ s₁)

        entries : entries_of w₁ b₂ ≡ some (run_anew m start left left_marks).entries
        entries = new_entries h few e _ ran.bytes_are long_answers same ∙ ap {B = Option (List Entry)} some
            (ap₂ (λ l ns. entries_with l ns (marks_left h few e)) others_as numbers ∙ ap (entries_with left (answers m (recorded_calls left) start)) marks_as)

        stays : SameKept w b w₁ b₂
        stays = new_same_kept h few e _ ran.bytes_are long_answers same

        abbrev x₀ : Sitting
        x₀ = sitting_of source t p s w b (held h)

        is : withdraw m k x₀ ≡ record { number = 0; value = 0; left = run_anew m start left left_marks }
        is = withdraw_done m k x₀ (refuses ∙ done)

        on : Taken source (kept_chunks w) (kept_pieces w) (kept_store b) → WithdrawnOn k source t p s w b t' p' s' w₁ b₂ (held h) (record { number = 0; value = 0 })
        on kt =
            record {
              becomes = record {
                number_is = sym (ap (λ (a : Answered). a.number) is);
                value_is = sym (ap (λ (a : Answered). a.value) is);
                desk_is = ran.desk_is ∙ desk ∙ sym (ap (λ (a : Answered). a.left.desk) is);
                record_is = entries ∙ ap {B = Option (List Entry)} some (sym (ap (λ (a : Answered). a.left.entries) is));
                kept_is = same_kept_desk stays source ∙ sym (ap (λ (a : Answered). a.left.kept) is);
                well_formed = ran.well_formed;
                kept_taken = kept_any source w₁ b₂ (withdraw m k x₀).left.entries (same_kept_tables stays (Taken source) kt);
                lengths = lengths;
                kept = subst (λ i. KeptBehind i (length (withdraw m k x₀).left.entries) w b w₁ b₂) (sym (held_count h))
                    (new_kept h few e _ ran.bytes_are long_answers same _
                    (ap (λ (a : Answered). length a.left.entries) is ∙ with_length left (answers m (recorded_calls left) start) left_marks ∙ ap length (sym others_as)));
              };
              refused = λ no. absurd (no (refuses ∙ done));
              same_kept = stays;
            }

        pub withdraws_call : Withdraws k source t p s w b t' p' s' w₁ b₂ (record { number = 0; value = 0 })
        withdraws_call l q kt =
            subst (λ y. WithdrawnOn k source t p s w b t' p' s' w₁ b₂ y (record { number = 0; value = 0 })) (sym (entries_are h l q))
            (on (kept_some (held h) (let r = withdraw_range in omega (arith, r.0, r.1, held_count h)) (subst (KeptTaken source w b) (entries_are h l q) kt)))
          where
            -- a call is filed, so that the kept desk is well formed
            kept_some : (y : List Entry) → 0 < length y → KeptTaken source w b y → Taken source (kept_chunks w) (kept_pieces w) (kept_store b)
            kept_some [] low t = absurd (omega arith)
            kept_some (c ∷ y) low t = t
