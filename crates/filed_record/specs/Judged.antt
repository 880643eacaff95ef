-- What judging a record and a call to be filed answer, by cases.
use Rattle.std.specs.Prelude.{ℕ, ◌+◌, ◌≤◌, ◌<◌, ◌≡◌, Bool, true, false, List, length, get_or, Option, Some, None, Result, Ok, Err}
use Rattle.std.proofs.Math.Option.{none}
use Rattle.memory_layout.specs.Layout.{RECORD_MARKS}
use Rattle.model_sheet.specs.Record.{Recorded, parsed, text_size}
use Rattle.model_filed.specs.Filed.{Entry, MOST_CALLS, MOST_TEXT, is_record, refused_filing, no_such_call}
use Rattle.model_filed.specs.Marks.{HIGHEST_MARKS}
use Rattle.sheet_records.specs.declared.Record.{Record}
use Rattle.sheet_records.specs.Found.{recorded}
use Rattle.memory_layout.specs.declared.refusal.Refusal.{Refusal}
use Rattle.memory_layout.specs.Refusals.{code}
use Rattle.filed_record.specs.declared.Size.{Size}
use Rattle.filed_record.specs.Record.{entries_of, Holds}

-- whether the marks of the first n entries fit
pub record MarksJudged (b : List ℕ) (n : ℕ) (r : Bool) : Type 0 where
  pub yes : r ≡ true → (i : ℕ) → i < n → get_or b (RECORD_MARKS + i) 0 ≤ HIGHEST_MARKS
  pub no : r ≡ false → (i : ℕ) × (i < n) × (HIGHEST_MARKS < get_or b (RECORD_MARKS + i) 0)

abbrev pub HeldSays : List ℕ → List ℕ → Option Size → Type 0
HeldSays w b (Some z) = Holds w b z
HeldSays w b None = entries_of w b ≡ none

-- s is this record alone, and there is room for it beside calls of this size
pub record FilesCall (s : List ℕ) (z : Size) (r : Recorded) : Type 0 where
  pub single : is_record s ≡ true
  pub fields : r ≡ parsed s
  pub calls : z.count < MOST_CALLS
  pub texts : z.text + length r.text ≤ MOST_TEXT

-- the number that refuses it beside any calls of this size
pub record RefusesCall (s : List ℕ) (z : Size) (n : ℕ) : Type 0 where
  pub some : 0 < n
  pub refuses : (l : List Recorded) → length l ≡ z.count → text_size l ≡ z.text → refused_filing s l ≡ n

abbrev pub JudgesCall : List ℕ → Size → Result Record Refusal → Type 0
JudgesCall s z (Ok e) = FilesCall s z (recorded e)
JudgesCall s z (Err r) = RefusesCall s z (code r)

-- the number that any record of so many calls gives for the k-th
abbrev pub NoSuchCall : ℕ → ℕ → ℕ → Type 0
NoSuchCall k count n = (l : List Entry) → length l ≡ count → no_such_call k l ≡ n

-- the k-th call has i calls before it, or there is none
abbrev pub FindsCall : ℕ → ℕ → Result ℕ Refusal → Type 0
FindsCall k count (Ok i) = NoSuchCall k count 0 × (k ≡ i + 1) × (i < count)
FindsCall k count (Err r) = NoSuchCall k count (code r) × (code r ≡ 17)
