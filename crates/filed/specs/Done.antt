-- What the parts of filing and withdrawing leave, on memory that holds a desk and a record.
use Rattle.std.specs.Prelude.{ℕ, ◌≡◌, List, take}
use Rattle.std.proofs.Math.Option.{some}
use Rattle.memory_layout.specs.Layout.{RECORD_ANSWERS}
use Rattle.memory_texts.specs.Over.{over}
use Rattle.memory.specs.Layout.{magic_string_of}
use Rattle.memory.specs.WellFormed.{limits_of, WellFormed}
use Rattle.memory.specs.declared.Answer.{Answer}
use Rattle.model.specs.Call.{after, answers}
use Rattle.model_sheet.specs.Record.{Recorded, records}
use Rattle.model_sheet.specs.Sheet.{recorded_calls}
use Rattle.model_filed.specs.Filed.{Entry}
use Rattle.filed_record.specs.Record.{entries_of, KeptTaken}
use Rattle.filed_record.specs.Promises.{FiledOn, WithdrawnOn}

abbrev pub Files : List ℕ → List ℕ → List ℕ → List ℕ → List ℕ → List ℕ → List ℕ → List ℕ → List ℕ → List ℕ → List ℕ → List ℕ → Answer → Type 0
Files call source t p s w b t' p' s' w' b' r = (l : List Entry) → entries_of w b ≡ some l → KeptTaken source w b l → FiledOn call source t p s w b t' p' s' w' b' l r

abbrev pub Withdraws : ℕ → List ℕ → List ℕ → List ℕ → List ℕ → List ℕ → List ℕ → List ℕ → List ℕ → List ℕ → List ℕ → List ℕ → Answer → Type 0
Withdraws k source t p s w b t' p' s' w' b' r = (l : List Entry) → entries_of w b ≡ some l → KeptTaken source w b l → WithdrawnOn k source t p s w b t' p' s' w' b' l r

-- the calls in the first u bytes are run from a desk, and their answers written
pub record RunAnew (list : List Recorded) (source t p s b t' p' s' b' : List ℕ) : Type 0 where
  pub desk_is : magic_string_of source t' p' s' ≡ after (limits_of t p s) (recorded_calls list) (magic_string_of source t p s)
  pub bytes_are : b' ≡ over b RECORD_ANSWERS (answers (limits_of t p s) (recorded_calls list) (magic_string_of source t p s))
  pub well_formed : WellFormed source t' p' s'

abbrev pub RunsAnew : ℕ → List ℕ → List ℕ → List ℕ → List ℕ → List ℕ → List ℕ → List ℕ → List ℕ → List ℕ → Type 0
RunsAnew u source t p s b t' p' s' b' = (list : List Recorded) → records (take u b) ≡ some list → RunAnew list source t p s b t' p' s' b'
