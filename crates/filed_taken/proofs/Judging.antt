-- A record judged: by its calls, then by the desk that it keeps.
use Prim.Native.Nat.{ℕ}
use mathlib.Core.Path.{◌≡◌, sym, ap, ◌∙◌}
use mathlib.Core.List.{List, [], ◌∷◌}
use mathlib.Core.Option.{none, some}
use native.Mathlib.Omega.{arith}
use lib.ListN.{length}
use Rattle.memory.specs.WellFormed.{Taken}
use Rattle.memory_used.specs.declared.Used.{Used}
use Rattle.memory_used.specs.Above.{Desk}
use Rattle.model_filed.specs.Filed.{Entry}
use Rattle.model_filed.proofs.Filing.{with_length}
use Rattle.filed_record.specs.declared.Size.{Size}
use Rattle.filed_record.specs.Record.{record_answers_of, record_marks_of, kept_chunks, kept_pieces, kept_store, entries_of, KeptTaken, Holds}
use Rattle.filed_record.proofs.Holding.{entries_are}
use Rattle.filed_taken.specs.Beside.{RecordTaken}

-- as many entries as calls
pub count_is : {w b : List ℕ} {z : Size} → Holds w b z → (l : List Entry) → entries_of w b ≡ some l → length l ≡ z.count
count_is {b = b} h l e = ap length (entries_are h l e) ∙ with_length h.list (record_answers_of b) (record_marks_of b) ∙ h.count

module _ (source w b : List ℕ) where
  -- no calls to read
  pub says_none : entries_of w b ≡ none → (l : List Entry) → entries_of w b ≡ some l → KeptTaken source w b l → ⊥
  says_none h l e k = let z : ◌≡◌ {A = ℕ} 0 1 = cc in absurd (omega arith)

  module _ {z : Size} (h : Holds w b z) where
    -- calls, and no well-formed desk
    pub says_not_kept : (z.count ≡ 0 → ⊥) → (Taken source (kept_chunks w) (kept_pieces w) (kept_store b) → ⊥) → (l : List Entry) → entries_of w b ≡ some l → KeptTaken source w b l → ⊥
    says_not_kept filed n l e k = go l (count_is h l e) k
      where
        go : (x : List Entry) → length x ≡ z.count → KeptTaken source w b x → ⊥
        go [] q t = filed (sym q)
        go (c ∷ x) q t = n t

    -- no calls
    pub says_empty : (u : Used) → z.count ≡ 0 → RecordTaken source w b z u
    says_empty u e = record { holds = h; kept = λ n. absurd (n e) }

-- ── for those who call it ──
module _ {source w b : List ℕ} {z : Size} {u : Used} (r : RecordTaken source w b z u) where
  pub kept_desk_of : (z.count ≡ 0 → ⊥) → Desk source (kept_chunks w) (kept_pieces w) (kept_store b) u
  kept_desk_of n = let k = r.kept n in record { well_formed = k.0.well_formed; above = k.1 }

  -- what the entries ask of the kept desk
  pub kept_for : (l : List Entry) → entries_of w b ≡ some l → KeptTaken source w b l
  kept_for l e = go l (count_is r.holds l e)
    where
      go : (x : List Entry) → length x ≡ z.count → KeptTaken source w b x
      go [] q = tt
      go (c ∷ x) q = (r.kept (λ n. absurd (omega arith))).0
