-- A call filed, and one refused.
use Prim.Native.Nat.{ℕ, zero, suc, ◌+◌, ◌≤◌}
use mathlib.Core.Path.{◌≡◌, refl, sym, ap, ap₂, subst, ◌∙◌}
use mathlib.Core.List.{List, [], ◌∷◌, ◌++◌}
use mathlib.Core.Option.{Option, some}
use native.Mathlib.Omega.{arith}
use lib.ListN.{length, length-append}
use Rattle.model.proofs.Lists.{sum_snoc}
use Rattle.model_sheet.specs.Record.{Recorded, parsed}
use Rattle.model_sheet.specs.Sheet.{call_of}
use Rattle.model_sheet.proofs.Runs.{answer_small}
use Rattle.model_filed.specs.Filed.{Entry, calls, entries_with, Sitting, Answered, unchanged, refused_filing, filed, file}
use Rattle.model_filed.proofs.Filing.{calls_with, with_length, true_bounds, refused_0, file_refused, file_filed}
use Rattle.memory.specs.Layout.{magic_string_of}
use Rattle.memory.specs.WellFormed.{limits_of, WellFormed, Taken}
use Rattle.memory.specs.Calls.{Ran}
use Rattle.memory.specs.declared.Answer.{Answer}
use Rattle.memory.proofs.Desks.{all_same}
use Rattle.memory_layout.specs.Refusals.{number_of}
use Rattle.memory_used.specs.declared.Outcome.{Outcome}
use Rattle.memory_used.specs.Above.{Leaves}
use Rattle.filed_record.specs.declared.Size.{Size}
use Rattle.filed_record.specs.Record.{record_answers_of, record_marks_of, KeptTaken, Holds}
use Rattle.filed_record.specs.Judged.{FilesCall, RefusesCall}
use Rattle.filed_record.specs.Promises.{Unchanged, sitting_of, KeptBehind, SameKept, Becomes, FiledOn}
use Rattle.filed_record.proofs.Holding.{holds_entries, entries_are}
use Rattle.filed_record.proofs.Calls.{files_text}
use Rattle.filed_record.proofs.Kept.{same_kept_desk, same_kept_tables, kept_any}
use Rattle.filed_entries.specs.Entries.{EntryPut}
use Rattle.filed_entries.proofs.Put.{put_behind, put_entries, put_kept, put_same_kept}
use Rattle.filed_kept.specs.Kept.{KeepsFirst}
use Rattle.filed_kept.proofs.First.{first_calls, first_holds, first_entries, first_desk, first_taken, first_behind, first_same_kept}
use Rattle.filed.specs.Done.{Files}

-- nothing is changed
pub unchanged_all : (t p s w b : List ℕ) → Unchanged t p s w b t p s w b
unchanged_all t p s w b = record { desk = all_same t p s; slices = record { words = refl; bytes = refl } }

module _ {w b : List ℕ} {z : Size} (h : Holds w b z) where
  -- the entries of the record
  abbrev pub held : List Entry
  held = entries_with h.list (record_answers_of b) (record_marks_of b)

  pub held_calls : calls held ≡ h.list
  held_calls = calls_with h.list (record_answers_of b) (record_marks_of b)

  pub held_count : length held ≡ z.count
  held_count = with_length h.list (record_answers_of b) (record_marks_of b) ∙ h.count

  -- an answer that leaves everything as it was
  pub becomes_same : {source t p s : List ℕ} → WellFormed source t p s → KeptTaken source w b held → (o : Answered) (n : ℕ) {r : Answer}
      → o ≡ unchanged n (sitting_of source t p s w b held) → r.number ≡ n → r.value ≡ 0 → Becomes source t p s w b t p s w b held o r
  becomes_same {source} {t} {p} {s} wf kt o n e number value =
      record {
        number_is = number ∙ sym (ap (λ (a : Answered). a.number) e);
        value_is = value ∙ sym (ap (λ (a : Answered). a.value) e);
        desk_is = sym (ap (λ (a : Answered). a.left.desk) e);
        record_is = holds_entries h ∙ ap {B = Option (List Entry)} some (sym (ap (λ (a : Answered). a.left.entries) e));
        kept_is = sym (ap (λ (a : Answered). a.left.kept) e);
        well_formed = wf;
        kept_taken = subst (KeptTaken source w b) (sym (ap (λ (a : Answered). a.left.entries) e)) kt;
        lengths = record { chunks = refl; pieces = refl; store = refl };
        kept = record { calls = λ i _ _ _. refl; answers = λ i _ _ _. refl; marks = λ i _ _ _. refl };
      }

  pub files_refused : {source t p s call : List ℕ} {n : ℕ} → WellFormed source t p s → RefusesCall call z n → Files call source t p s w b t p s w b (record { number = n; value = 0 })
  files_refused {source} {t} {p} {s} {call} {n} wf j l e kt = subst (λ x. FiledOn call source t p s w b t p s w b x (record { number = n; value = 0 })) (sym (entries_are h l e)) (go n refl)
    where
      here : KeptTaken source w b held
      here = subst (KeptTaken source w b) (entries_are h l e) kt

      refuses : refused_filing call (calls held) ≡ n
      refuses = ap (refused_filing call) held_calls ∙ j.refuses h.list h.count h.text

      go : (m : ℕ) → n ≡ m → FiledOn call source t p s w b t p s w b held (record { number = n; value = 0 })
      go zero q = let some = j.some in absurd (omega arith)
      go (suc m) q =
          record {
            becomes = becomes_same wf here (file (limits_of t p s) call (sitting_of source t p s w b held)) (suc m)
                (file_refused (limits_of t p s) call (sitting_of source t p s w b held) m (refuses ∙ q)) q refl;
            refused = λ _. unchanged_all t p s w b;
            behind = λ z. absurd (omega (arith, refuses, z, j.some));
            same = λ _. all_same t p s;
            same_kept = λ _. record { tables = refl; store = refl };
          }

  module _ {call : List ℕ} {one : Recorded} (g : FilesCall call z one) where
    not_refused : refused_filing call (calls held) ≡ 0
    not_refused =
        ap (refused_filing call) held_calls
        ∙ refused_0 call h.list g.single (true_bounds (h.list ++ (parsed call ∷ [])) (record {
          few = omega (arith, g.calls, h.count, length-append h.list (parsed call ∷ []));
          text = omega (arith, g.texts, h.text, files_text g, sum_snoc (λ (r : Recorded). length r.text) h.list (parsed call));
        }))

    -- an answer is a byte
    pub answer_byte : {source t p s t' p' s' : List ℕ} {o : Outcome} → WellFormed source t p s → Leaves (call_of one) source t p s t' p' s' o
        → number_of o.status ≤ 20
    answer_byte {source} {t} {p} {s} wf x =
        omega (
          arith,
          answer_small (limits_of t p s) (call_of one) (magic_string_of source t p s) wf.desk.formed,
          x.ran.number_is,
        )

    -- the desk is kept where this is the first call, its core call is made, and it stands behind the others
    module _ {source t p s w₁ b₁ t' p' s' w' b' : List ℕ} {o : Outcome} (d : Taken source t p s) (f : KeepsFirst z.count t p s w b w₁ b₁) (hw : length w₁ ≡ length w)
        (hb : length b₁ ≡ length b) (x : Leaves (call_of one) source t p s t' p' s' o)
        (e : EntryPut call (number_of o.status) z w₁ b₁ w' b') (same : length w' ≡ length w₁) where
      abbrev h₁ : Holds w₁ b₁ z
      h₁ = first_holds h f hw hb

      ran : Ran (call_of (parsed call)) source t p s t' p' s' (number_of o.status) o.cuts
      ran = subst (λ y. Ran (call_of y) source t p s t' p' s' (number_of o.status) o.cuts) g.fields x.ran

      abbrev x₀ : Sitting
      x₀ = sitting_of source t p s w b held

      is : file (limits_of t p s) call x₀ ≡ filed (limits_of t p s) (parsed call) x₀
      is = file_filed (limits_of t p s) call x₀ not_refused

      -- what is kept stays behind the new entry
      stays : SameKept w₁ b₁ w' b'
      stays = put_same_kept h₁ g e same

      files_call_on : KeptTaken source w b held → FiledOn call source t p s w b t' p' s' w' b' held (record { number = number_of o.status; value = o.cuts })
      files_call_on kt =
          record {
            becomes = record {
              number_is = ran.number_is ∙ sym (ap (λ (a : Answered). a.number) is);
              value_is = let v = ran.value_is in omega (arith, ap (λ (a : Answered). a.value) is);
              desk_is = ran.desk_is ∙ sym (ap (λ (a : Answered). a.left.desk) is);
              record_is =
                  put_entries h₁ g e same
                  ∙ ap {B = Option (List Entry)} some (ap₂ (λ l n. l ++ (record { call = parsed call; answer = n; marks = 0 } ∷ [])) (first_entries h f) ran.number_is
                  ∙ sym (ap (λ (a : Answered). a.left.entries) is));
              kept_is = same_kept_desk stays source ∙ first_desk h f source ∙ sym (ap (λ (a : Answered). a.left.kept) is);
              well_formed = ran.well_formed;
              kept_taken = kept_any source w' b' (file (limits_of t p s) call x₀).left.entries (same_kept_tables stays (Taken source) (first_taken h f d kt));
              lengths = ran.lengths;
              kept = first_behind h f (subst (λ n. KeptBehind n (length (file (limits_of t p s) call x₀).left.entries) w₁ b₁ w' b') (sym held_count)
                  (put_kept h₁ g e same _ (ap (λ (a : Answered). length a.left.entries) is ∙ length-append held _ ∙ ap (λ n. n + 1) held_count)));
            };
            refused = λ no. absurd (no not_refused);
            behind = λ _. put_behind h₁ g e same ∙ ap (λ l. l ++ call) (first_calls h f);
            same = ran.same;
            same_kept = first_same_kept h f stays;
          }

      pub files_call : Files call source t p s w b t' p' s' w' b' (record { number = number_of o.status; value = o.cuts })
      files_call l q kt =
          subst (λ y. FiledOn call source t p s w b t' p' s' w' b' y (record { number = number_of o.status; value = o.cuts })) (sym (entries_are h l q))
          (files_call_on (subst (KeptTaken source w b) (entries_are h l q) kt))
