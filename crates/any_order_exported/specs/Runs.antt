-- Runs of the exported functions, by their contracts: what a caller lends, what it gets back, and what it can see.
use Rattle.std.specs.Prelude.{ℕ, ◌≡◌, List, [], ◌∷◌}
use Rattle.std.proofs.Math.Option.{some}
use Rattle.model.specs.MagicString.{MagicString}
use Rattle.model.specs.Limits.{Limits}
use Rattle.model.specs.Call.{Edit, Report, freeze}
use Rattle.model_calls.specs.Call.{DeskCall, change, report, join}
use Rattle.memory.specs.Layout.{magic_string_of}
use Rattle.memory.specs.WellFormed.{limits_of, Taken}
use Rattle.memory.specs.Calls.{Edited, Reported}
use Rattle.filed_record.specs.Record.{entries_of}
use Rattle.filed_record.specs.Promises.{CallFrozen}
use Rattle.join_lists.specs.Promises.{Joined}

-- the lent tables of a desk
pub record Tables : Type 0 where
  pub chunks : List ℕ
  pub pieces : List ℕ
  pub store : List ℕ

-- they hold a well-formed desk over the source, and which; and its limits
abbrev pub Holds : List ℕ → Tables → Type 0
Holds source T = Taken source T.chunks T.pieces T.store

abbrev pub desk_of : List ℕ → Tables → MagicString
desk_of source T = magic_string_of source T.chunks T.pieces T.store

abbrev pub limits : Tables → Limits
limits T = limits_of T.chunks T.pieces T.store

-- what an exported function returns
pub record Answer : Type 0 where
  pub number : ℕ
  pub value : ℕ

-- ── edits ──
-- one edit, as the contract of its exported function has it (crates/magic_string/src/exported_edits.rt): on any tables, with its answer, and the tables after
abbrev pub EditCall : List ℕ → Edit → Tables → Answer → Tables → Type 0
EditCall source e T a T₁ =
    Edited e source T.chunks T.pieces T.store T₁.chunks T₁.pieces T₁.store a.number a.value

-- "An order of L is run from D: each edit gets the desk that the one before it left, and nothing else changes that desk meanwhile": a list of edits, their answers, and the
-- tables after
pub data EditRun (source : List ℕ) : List Edit → Tables → List Answer → Tables → Type 0 where
  done : {T : Tables} → EditRun source [] T [] T
  next : {e : Edit} {L : List Edit} {T T₁ T₂ : Tables} {a : Answer} {answers : List Answer}
      → EditCall source e T a T₁ → EditRun source L T₁ answers T₂ → EditRun source (e ∷ L) T (a ∷ answers) T₂

-- ── later calls ──
-- what a caller can see of a call outside the desk: the answer, and the buffer that it lent, before and after the call; both are empty where the call takes none
pub record Seen : Type 0 where
  pub answer : Answer
  pub before : List ℕ
  pub after : List ℕ

-- an edit, a join and a freezing take no buffer
abbrev pub seen_edit : Answer → Seen
seen_edit a = record { answer = a; before = []; after = [] }

-- one report, as the contract of its exported function has it (exported_reports.rt). The tables are lent for reading; the number in a report that fills a buffer is its length
abbrev pub ReportCall : List ℕ → Report → Tables → Seen → Type 0
ReportCall source q T x =
    Reported q source T.chunks T.pieces T.store x.before x.after x.answer.number x.answer.value

-- one join of two lists, as the contract of its exported function has it (exported_join.rt)
abbrev pub JoinCall : List ℕ → List ℕ → List ℕ → Tables → Answer → Tables → Type 0
JoinCall source first second T a T₁ =
    Joined first second source T.chunks T.pieces T.store T₁.chunks T₁.pieces T₁.store (record { number = a.number; value = a.value })

-- one freezing beside a record, in slices w and b of its own that are only read, as the contract of its exported function has it (exported_filed.rt)
abbrev pub FreezeCall : List ℕ → ℕ → ℕ → List ℕ → List ℕ → Tables → Answer → Tables → Type 0
FreezeCall source from to w b T a T₁ =
    CallFrozen from to source T.chunks T.pieces T.store w b T₁.chunks T₁.pieces T₁.store (record { number = a.number; value = a.value })

-- "Later calls are any list of this paper's calls on a desk .., refused ones included, run in the same way from what an order of L left": a list of them, and what is seen of each
pub data LaterRun (source : List ℕ) : List DeskCall → Tables → List Seen → Type 0 where
  done : {T : Tables} → LaterRun source [] T []
  changed : {e : Edit} {calls : List DeskCall} {T T₁ : Tables} {a : Answer} {seen : List Seen}
      → EditCall source e T a T₁ → LaterRun source calls T₁ seen → LaterRun source (change e ∷ calls) T (seen_edit a ∷ seen)
  reported : {q : Report} {calls : List DeskCall} {T : Tables} {x : Seen} {seen : List Seen}
      → ReportCall source q T x → LaterRun source calls T seen → LaterRun source (report q ∷ calls) T (x ∷ seen)
  joined : {first second : List ℕ} {calls : List DeskCall} {T T₁ : Tables} {a : Answer} {seen : List Seen}
      → JoinCall source first second T a T₁ → LaterRun source calls T₁ seen → LaterRun source (join first second ∷ calls) T (seen_edit a ∷ seen)
  -- without calls filed a freezing is an edit of the desk, whatever the record keeps
  frozen : {from to : ℕ} {w b : List ℕ} {calls : List DeskCall} {T T₁ : Tables} {a : Answer} {seen : List Seen} → entries_of w b ≡ some []
      → FreezeCall source from to w b T a T₁ → LaterRun source calls T₁ seen → LaterRun source (change (freeze from to) ∷ calls) T (seen_edit a ∷ seen)
