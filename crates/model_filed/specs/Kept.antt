-- Whatever is filed, withdrawn and marked, the desk is what the record gives when run. proofs/Kept.antt proves it.
use Rattle.std.specs.Prelude.{ℕ, ◌≡◌, List, [], ◌∷◌}
use Rattle.model.specs.MagicString.{MagicString}
use Rattle.model.specs.Limits.{Limits}
use Rattle.model.specs.Call.{after, answers}
use Rattle.model_sheet.specs.Sheet.{recorded_calls}
use Rattle.model_filed.specs.Filed.{Sitting, Answered, calls, answers_of, start_of, file, without, withdraw}
use Rattle.model_filed.specs.Marks.{refused_marks, set_marks}

-- a call that is filed, by its bytes, or withdrawn, by its number, or given marks
pub data Action : Type 0 where
  filing : List ℕ → Action
  withdrawing : ℕ → Action
  marking : ℕ → ℕ → Action

-- what the examiner writes leaves the desk and the kept one
abbrev pub marked_beside : ℕ → ℕ → Sitting → Answered
marked_beside n m x =
    record { number = refused_marks n m x.entries; value = 0; left = record { desk = x.desk; kept = x.kept; entries = set_marks n m x.entries } }

abbrev pub act : Limits → Action → Sitting → Answered
act k (filing s) x = file k s x
act k (withdrawing n) x = withdraw k n x
act k (marking n m) x = marked_beside n m x

-- actions one after the other, refused ones too
abbrev pub acts : Limits → List Action → Sitting → Sitting
acts k [] x = x
acts k (a ∷ l) x = acts k l (act k a x).left

-- a desk beside a record without calls; what that keeps does not matter
abbrev pub begun : MagicString → MagicString → Sitting
begun start kept = record { desk = start; kept = kept; entries = [] }

-- the record's calls begin on the start desk, the desk is what they leave when they are run from it, and the answers are those of that run
pub record Agrees (k : Limits) (start : MagicString) (x : Sitting) : Type 0 where
  pub begins : start_of x ≡ start
  pub desk : x.desk ≡ after k (recorded_calls (calls x.entries)) start
  pub answers : answers_of x.entries ≡ answers k (recorded_calls (calls x.entries)) start

-- the law
abbrev pub AlwaysAgrees : Type 0
AlwaysAgrees = (k : Limits) (start kept : MagicString) (l : List Action) → Agrees k start (acts k l (begun start kept))

-- a withdrawal that is accepted leaves the others in order
abbrev pub LeavesOthers : Type 0
LeavesOthers =
    (k : Limits) (n : ℕ) (x : Sitting) → (withdraw k n x).number ≡ 0
    → calls (withdraw k n x).left.entries ≡ without n (calls x.entries)
