-- "Either does the call or gives one of the table's numbers", of the exported calls on any memory: the statements, proved in proofs/Numbers.antt.
use Rattle.std.specs.Prelude.{ℕ, ◌≡◌, true, List}
use Rattle.model.specs.Call.{Edit, Report}
use Rattle.model_calls.specs.Call.{change, report, join, on_desk, «open», numbers_of}
use Rattle.model_sheet.specs.Record.{parsed}
use Rattle.model_sheet.specs.Sheet.{call_of, sheet_numbers}
use Rattle.model_filed.specs.Filed.{Entry, file_numbers, withdraw_numbers, freeze_numbers}
use Rattle.model_filed.specs.Marks.{set_marks_numbers, entry_numbers, total_numbers}
use Rattle.memory.specs.declared.Answer.{Answer}
use Rattle.memory.specs.Calls.{Edited, Reported, Opened}
use Rattle.model_preservation.specs.Refusals.{among}
use Rattle.sheet_run.specs.SheetRan.{SheetRan}
use Rattle.filed_record.specs.Promises.{CallFiled, CallWithdrawn, CallFrozen}
use Rattle.filed_record.specs.Marks.{CallMarked, ShownBy, TotalRead}
use Rattle.join_lists.specs.Promises.{Joined}

abbrev pub EditedListed : Type 0
EditedListed = (e : Edit) (source t p s t' p' s' : List ℕ) (number value : ℕ) → Edited e source t p s t' p' s' number value → among number (numbers_of (on_desk (change e))) ≡ true

abbrev pub ReportedListed : Type 0
ReportedListed = (q : Report) (source t p s out out' : List ℕ) (number value : ℕ) → Reported q source t p s out out' number value
    → among number (numbers_of (on_desk (report q))) ≡ true

abbrev pub OpenedNumberListed : Type 0
OpenedNumberListed = (source t p s t' p' s' : List ℕ) (number : ℕ) → Opened source t p s t' p' s' number → among number (numbers_of («open» source)) ≡ true

abbrev pub SheetNumberListed : Type 0
SheetNumberListed = (sheet t p s a t' p' s' a' : List ℕ) (r : Answer) → SheetRan sheet t p s a t' p' s' a' r → among r.number sheet_numbers ≡ true

-- filing, whose numbers are 2, 16, 13 and those of the core call; withdrawing; and freezing, whose numbers are 2, 20 and those of the edit
abbrev pub FiledNumberListed : Type 0
FiledNumberListed =
    (call source t p s w b t' p' s' w' b' : List ℕ) (r : Answer) → CallFiled call source t p s w b t' p' s' w' b' r
    → among r.number (file_numbers (call_of (parsed call))) ≡ true

abbrev pub WithdrawnNumberListed : Type 0
WithdrawnNumberListed =
    (k : ℕ) (source t p s w b t' p' s' w' b' : List ℕ) (r : Answer) → CallWithdrawn k source t p s w b t' p' s' w' b' r → among r.number withdraw_numbers ≡ true

abbrev pub FrozenNumberListed : Type 0
FrozenNumberListed =
    (from to : ℕ) (source t p s w b t' p' s' : List ℕ) (r : Answer) → CallFrozen from to source t p s w b t' p' s' r → among r.number (freeze_numbers from to) ≡ true

-- the calls on a record alone: marks written, an entry read by the member or by the examiner, and the total
abbrev pub MarkedNumberListed : Type 0
MarkedNumberListed = (k marks : ℕ) (source w b b' : List ℕ) (r : Answer) → CallMarked k marks source w b b' r → among r.number set_marks_numbers ≡ true

abbrev pub EntryNumberListed : Type 0
EntryNumberListed =
    (reading : Entry → List ℕ) (k : ℕ) (source w b out out' : List ℕ) (r : Answer) → ShownBy reading k source w b out out' r → among r.number entry_numbers ≡ true

abbrev pub TotalNumberListed : Type 0
TotalNumberListed = (source w b : List ℕ) (r : Answer) → TotalRead source w b r → among r.number total_numbers ≡ true

-- joining, whose numbers are 2, 16, 18, 19 and 13
abbrev pub JoinedNumberListed : Type 0
JoinedNumberListed =
    (first second source t p s t' p' s' : List ℕ) (r : Answer) → Joined first second source t p s t' p' s' r → among r.number (numbers_of (on_desk (join first second))) ≡ true
