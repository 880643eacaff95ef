-- Whether calls are accepted alone, each on the desk that memory holds.
use Rattle.std.specs.Prelude.{ℕ, ◌≡◌, Bool, List, eqb}
use Rattle.std.proofs.Math.Option.{some}
use Rattle.model.specs.Call.{run}
use Rattle.model_sheet.specs.Record.{Recorded, records}
use Rattle.model_sheet.specs.Sheet.{call_of, recorded_calls}
use Rattle.model_join.specs.Tests.{each_alone}
use Rattle.memory.specs.Layout.{magic_string_of}
use Rattle.memory.specs.WellFormed.{limits_of}
use Rattle.memory_view.specs.declared.DeskView.{DeskView}

-- b says whether the call of a record is accepted on the desk
abbrev pub Accepted : List ℕ → List ℕ → List ℕ → List ℕ → Recorded → Bool → Type 0
Accepted source t p s one b = b ≡ eqb (run (limits_of t p s) (call_of one) (magic_string_of source t p s)).number 0

-- b says whether every call of the records that r is is accepted alone
abbrev pub AllAlone : List ℕ → List ℕ → List ℕ → List ℕ → List ℕ → Bool → Type 0
AllAlone source t p s r b = (l : List Recorded) → records r ≡ some l → b ≡ each_alone (limits_of t p s) (magic_string_of source t p s) (recorded_calls l)

-- both said of a desk's view
abbrev pub AcceptedOn : DeskView → Recorded → Bool → Type 0
AcceptedOn d = Accepted d.source.now d.chunks.now d.pieces.now d.store.now

abbrev pub AllAloneOn : DeskView → List ℕ → Bool → Type 0
AllAloneOn d = AllAlone d.source.now d.chunks.now d.pieces.now d.store.now
