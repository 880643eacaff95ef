-- From what the check of a record sees to what a call promises of any memory.
use Prim.Native.Nat.{ℕ}
use mathlib.Core.Path.{◌≡◌}
use mathlib.Core.List.{List}
use mathlib.Core.Option.{some}
use Rattle.memory.specs.declared.Answer.{Answer}
use Rattle.memory_used.specs.declared.Used.{Used}
use Rattle.model_filed.specs.Filed.{Entry, no_such_call}
use Rattle.filed_record.specs.declared.Size.{Size}
use Rattle.filed_record.specs.Record.{entries_of, KeptTaken, Holds}
use Rattle.filed_record.specs.Judged.{NoSuchCall}
use Rattle.filed_record.specs.Marks.{OnRecord}
use Rattle.filed_record.proofs.Holding.{holds_some}
use Rattle.filed_taken.specs.Beside.{RecordTaken}
use Rattle.filed_taken.proofs.Judging.{count_is, kept_for}

module _ {P : List Entry → Type 0} {unchanged : Type 0} {source w b : List ℕ} {r : Answer} where
  -- no record: 2
  pub on_none : ((l : List Entry) → entries_of w b ≡ some l → KeptTaken source w b l → ⊥) → (r.number ≡ 2) × (r.value ≡ 0) → unchanged → OnRecord P unchanged source w b r
  on_none none two same =
      let all : (r.number ≡ 2) × (r.value ≡ 0) × unchanged = (two.0, two.1, same) in
      record { no_record = λ _. all; not_kept = λ _ _ _. all; taken = λ l q k. absurd (none l q k) }

  -- a record
  pub on_taken : {z : Size} {u : Used} → RecordTaken source w b z u → (Holds w b z → (l : List Entry) → entries_of w b ≡ some l → P l) → OnRecord P unchanged source w b r
  on_taken t f = record { no_record = λ q. holds_some t.holds q; not_kept = λ l q k. absurd (k (kept_for t l q)); taken = λ l q _. f t.holds l q }

-- a number judged by how many there are
pub judged : (k : ℕ) {w b : List ℕ} {z : Size} {n : ℕ} → Holds w b z → NoSuchCall k z.count n → (l : List Entry) → entries_of w b ≡ some l → no_such_call k l ≡ n
judged k h s l q = s l (count_is h l q)
