-- Every call, by name, and what it gives: document 01's, and those that document 02's requests add to a desk.
use Rattle.std.specs.Prelude.{ℕ, List, [], ◌∷◌}
use Rattle.model.specs.Text.{Text}
use Rattle.model.specs.MagicString.{MagicString}
use Rattle.model.specs.Limits.{Limits}
use Rattle.model.specs.Call.{Edit, Report, edit_numbers, report_numbers, show, opened, Outcome, changed, edited}
use Rattle.model_join.specs.Join as joining

-- the calls on a desk: "this paper's calls on a desk (edits, trims, indent, slices, reports, `to_string`)", freezing among the edits, and the join of two lists. The
-- any-order rule's later calls are these, so that a call that is added is one of them
pub data DeskCall : Type 0 where
  change : Edit → DeskCall
  report : Report → DeskCall
  join : List ℕ → List ℕ → DeskCall

-- every call: an opening, or a call on a desk
pub data Call : Type 0 where
  «open» : Text → Call
  on_desk : DeskCall → Call

-- "does the call or gives one of the table's numbers": those that a call may give beside 0, in the documents' order. 2 is judged on the memory
abbrev pub numbers_of : Call → List ℕ
numbers_of («open» source) = 2 ∷ 13 ∷ 1 ∷ []
numbers_of (on_desk (change e)) = 2 ∷ edit_numbers e
numbers_of (on_desk (report q)) = 2 ∷ report_numbers q
numbers_of (on_desk (join first second)) = joining.join_numbers

unfoldable pub perform : Limits → Call → MagicString → Outcome
perform k («open» source) m = changed 0 (opened k source m)
perform k (on_desk (change e)) m = edited k e m
perform k (on_desk (report q)) m = record { shown = show q m; desk = m }
perform k (on_desk (join first second)) m = joining.join k first second m
