-- From what the checks of desk and record see and the inner call promises to what the call promises of any memory.
use mathlib.Core.Path.{◌≡◌, refl, sym, ap, subst, ◌∙◌}
use mathlib.Core.List.{List, [], ◌∷◌}
use mathlib.Core.Option.{Option, some}
use native.Mathlib.Omega.{arith}
use Prim.Native.Nat.{ℕ}
use lib.ListN.{length}
use Rattle.model.specs.Call.{freeze}
use Rattle.memory.specs.WellFormed.{limits_of, WellFormed, Taken}
use Rattle.memory.specs.declared.Answer.{Answer}
use Rattle.memory.proofs.Desks.{all_same}
use Rattle.memory_used.specs.declared.Used.{Used}
use Rattle.memory_layout.specs.Refusals.{number_of}
use Rattle.memory_used.specs.declared.Outcome.{Outcome}
use Rattle.memory_used.specs.Above.{Leaves}
use Rattle.model_filed.specs.Filed.{Entry, Answered, unchanged, freeze_beside, edited_beside}
use Rattle.model_filed.proofs.Filing.{freeze_empty, freeze_filed}
use Rattle.filed_record.specs.declared.Size.{Size}
use Rattle.filed_record.specs.Record.{entries_of, KeptTaken}
use Rattle.filed_record.specs.Promises.{Unchanged, sitting_of, Becomes, FrozenOn, OnSitting}
use Rattle.filed_record.proofs.Holding.{entries_are, holds_some}
use Rattle.filed_taken.specs.Beside.{RecordTaken}
use Rattle.filed_taken.proofs.Judging.{count_is, kept_for}
use Rattle.filed.proofs.Files.{unchanged_all, becomes_same, held}

-- a call on a desk and a record: no desk, no record, or both
module _ {P : List Entry → Type 0} {source t p s w b : List ℕ} where
  pub sitting_no_desk : {r : Answer} → (Taken source t p s → ⊥) → (r.number ≡ 2) × (r.value ≡ 0) → OnSitting P source t p s w b t p s w b r
  sitting_no_desk {r} n e =
      let two : (r.number ≡ 2) × (r.value ≡ 0) × Unchanged t p s w b t p s w b = (e.0, e.1, unchanged_all t p s w b) in
      record { no_desk = λ _. two; no_record = λ _. two; not_kept = λ _ _ _. two; taken = λ d. absurd (n d) }

  pub sitting_no_record : {r : Answer} → ((l : List Entry) → entries_of w b ≡ some l → KeptTaken source w b l → ⊥) → (r.number ≡ 2) × (r.value ≡ 0)
      → OnSitting P source t p s w b t p s w b r
  sitting_no_record {r} h e =
      let two : (r.number ≡ 2) × (r.value ≡ 0) × Unchanged t p s w b t p s w b = (e.0, e.1, unchanged_all t p s w b) in
      record { no_desk = λ _. two; no_record = λ _. two; not_kept = λ _ _ _. two; taken = λ _ l q k. absurd (h l q k) }

  pub sitting_yes : {t' p' s' w' b' : List ℕ} {r : Answer} {z : Size} {u : Used} → Taken source t p s → RecordTaken source w b z u
      → ((l : List Entry) → entries_of w b ≡ some l → KeptTaken source w b l → P l) → OnSitting P source t p s w b t' p' s' w' b' r
  sitting_yes d h f =
      record {
        no_desk = λ n. absurd (n d);
        no_record = λ e. holds_some h.holds e;
        not_kept = λ l e n. absurd (n (kept_for h l e));
        taken = λ _. f;
      }

-- ── freezing ──
module _ {from to : ℕ} {source t p s w b : List ℕ} {z : Size} {u : Used} (h : RecordTaken source w b z u) where
  -- with calls filed: 20, and nothing is changed
  pub frozen_filed : WellFormed source t p s → (z.count ≡ 0 → ⊥) → {r : Answer} → (r.number ≡ 20) × (r.value ≡ 0)
      → (l : List Entry) → entries_of w b ≡ some l → KeptTaken source w b l → FrozenOn from to source t p s w b t p s l r
  frozen_filed wf filed {r} e l q kt =
      record {
        becomes = subst (λ y. Becomes source t p s w b t p s w b y (freeze_beside (limits_of t p s) from to (sitting_of source t p s w b y)) r) (sym same)
            (becomes_same h.holds wf (subst (KeptTaken source w b) same kt) (freeze_beside (limits_of t p s) from to (sitting_of source t p s w b (held h.holds))) 20 (go (held h.holds) refl)
            e.0 e.1);
        filed = λ _. all_same t p s;
        same = λ _. all_same t p s;
      }
    where
      same : l ≡ held h.holds
      same = entries_are h.holds l q

      go : (y : List Entry) → held h.holds ≡ y
          → freeze_beside (limits_of t p s) from to (sitting_of source t p s w b (held h.holds)) ≡ unchanged 20 (sitting_of source t p s w b (held h.holds))
      go [] n = absurd (filed (sym (count_is h.holds l q) ∙ ap length same ∙ ap length n))
      go (c ∷ y) n = freeze_filed (limits_of t p s) from to (sitting_of source t p s w b (held h.holds)) n

  -- without: the edit
  pub frozen_edit : z.count ≡ 0 → {t' p' s' : List ℕ} {o : Outcome} → Leaves (freeze from to) source t p s t' p' s' o
      → (l : List Entry) → entries_of w b ≡ some l → KeptTaken source w b l → FrozenOn from to source t p s w b t' p' s' l (record { number = number_of o.status; value = o.cuts })
  frozen_edit empty {t'} {p'} {s'} {o} x l q kt = go l q (count_is h.holds l q)
    where
      go : (y : List Entry) → entries_of w b ≡ some y → length y ≡ z.count → FrozenOn from to source t p s w b t' p' s' y (record { number = number_of o.status; value = o.cuts })
      go (c ∷ y) q n = absurd (omega arith)
      go [] q n =
          let x₀ = sitting_of source t p s w b [] in
          let is : freeze_beside (limits_of t p s) from to x₀ ≡ edited_beside (limits_of t p s) (freeze from to) x₀ = freeze_empty (limits_of t p s) from to x₀ refl in
          let ran = x.ran in
          record {
            becomes = record {
              number_is = ran.number_is ∙ sym (ap (λ (a : Answered). a.number) is);
              value_is = let v = ran.value_is in omega (arith, ap (λ (a : Answered). a.value) is);
              desk_is = ran.desk_is ∙ sym (ap (λ (a : Answered). a.left.desk) is);
              record_is = q ∙ ap {B = Option (List Entry)} some (sym (ap (λ (a : Answered). a.left.entries) is));
              kept_is = sym (ap (λ (a : Answered). a.left.kept) is);
              well_formed = ran.well_formed;
              kept_taken = subst (KeptTaken source w b) (sym (ap (λ (a : Answered). a.left.entries) is)) tt;
              lengths = ran.lengths;
              kept = record { calls = λ i _ _ _. refl; answers = λ i _ _ _. refl; marks = λ i _ _ _. refl };
            };
            filed = λ f. absurd (f refl);
            same = ran.same;
          }
