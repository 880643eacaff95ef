-- What the calls of document 02's L9 promise of every input: marks written, entries read, and the total.
use Rattle.std.specs.Prelude.{ℕ, ◌+◌, ◌-◌, ◌≡◌, List, ◌++◌, length, set, drop}
use Rattle.std.proofs.Math.Option.{none, some}
use Rattle.memory_layout.specs.Layout.{RECORD_MARKS}
use Rattle.memory.specs.declared.Answer.{Answer}
use Rattle.model_filed.specs.Filed.{Entry}
use Rattle.model_filed.specs.Marks.{refused_marks, set_marks, member_bytes, examiner_bytes, show_entry, total}
use Rattle.filed_record.specs.Record.{entries_of, KeptTaken}
use Rattle.filed_record.specs.Promises.{SameKept}

-- These calls lend a record and no desk: 2 and nothing changed where there is no well-formed record, or one with calls that keeps no well-formed desk over the source; else what P says of
-- its entries
pub record OnRecord (P : List Entry → Type 0) (unchanged : Type 0) (source w b : List ℕ) (r : Answer) : Type 0 where
  pub no_record : entries_of w b ≡ none → (r.number ≡ 2) × (r.value ≡ 0) × unchanged
  pub not_kept : (l : List Entry) → entries_of w b ≡ some l → (KeptTaken source w b l → ⊥) → (r.number ≡ 2) × (r.value ≡ 0) × unchanged
  pub taken : (l : List Entry) → entries_of w b ≡ some l → KeptTaken source w b l → P l

-- ── marks written: one byte, and with a number none ──
pub record MarksSet (k marks : ℕ) (w b b' : List ℕ) (l : List Entry) (r : Answer) : Type 0 where
  pub number_is : r.number ≡ refused_marks k marks l
  pub value_is : r.value ≡ 0
  pub record_is : entries_of w b' ≡ some (set_marks k marks l)
  pub written : r.number ≡ 0 → b' ≡ set b (RECORD_MARKS + (k - 1)) marks
  pub refused : (r.number ≡ 0 → ⊥) → b' ≡ b
  pub same_kept : SameKept w b w b'

abbrev pub CallMarked : ℕ → ℕ → List ℕ → List ℕ → List ℕ → List ℕ → Answer → Type 0
CallMarked k marks source w b b' r = OnRecord (λ l. MarksSet k marks w b b' l r) (b' ≡ b) source w b r

-- ── an entry read into a buffer: the bytes of the reading at its front, and behind them what was there ──
pub record EntryShown (reading : Entry → List ℕ) (k : ℕ) (out out' : List ℕ) (l : List Entry) (r : Answer) : Type 0 where
  pub number_is : r.number ≡ (show_entry reading k (length out) l).number
  pub value_is : r.value ≡ (show_entry reading k (length out) l).value
  pub written : out' ≡ (show_entry reading k (length out) l).written ++ drop (length (show_entry reading k (length out) l).written) out

abbrev pub ShownBy : (Entry → List ℕ) → ℕ → List ℕ → List ℕ → List ℕ → List ℕ → List ℕ → Answer → Type 0
ShownBy reading k source w b out out' r = OnRecord (λ l. EntryShown reading k out out' l r) (out' ≡ out) source w b r

-- the member's reading, and the examiner's
abbrev pub EntryRead : ℕ → List ℕ → List ℕ → List ℕ → List ℕ → List ℕ → Answer → Type 0
EntryRead k source w b out out' r = ShownBy member_bytes k source w b out out' r

abbrev pub MarkedEntryRead : ℕ → List ℕ → List ℕ → List ℕ → List ℕ → List ℕ → Answer → Type 0
MarkedEntryRead k source w b out out' r = ShownBy examiner_bytes k source w b out out' r

-- ── the total ──
abbrev pub TotalRead : List ℕ → List ℕ → List ℕ → Answer → Type 0
TotalRead source w b r = OnRecord (λ l. (r.number ≡ 0) × (r.value ≡ total l)) (Unit {0}) source w b r
