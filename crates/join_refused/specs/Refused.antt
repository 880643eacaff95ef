-- The number with which two lists are refused on a desk.
use Rattle.std.specs.Prelude.{ℕ, ◌≡◌, Bool, List, ◌++◌}
use Rattle.std.proofs.Math.Option.{some}
use Rattle.model_sheet.specs.Record.{Recorded, records}
use Rattle.model_sheet.specs.Sheet.{recorded_calls}
use Rattle.model_join.specs.Tests.{each_alone}
use Rattle.model_join.specs.Join.{refused_join}
use Rattle.memory.specs.Layout.{magic_string_of}
use Rattle.memory.specs.WellFormed.{limits_of}
use Rattle.memory_view.specs.declared.DeskView.{DeskView}

-- of two lists of records, whether every call of both is accepted alone
abbrev pub BothAlone : List ℕ → List ℕ → List ℕ → List ℕ → List ℕ → List ℕ → Bool → Type 0
BothAlone first second source t p s b =
    (l l' : List Recorded) → records first ≡ some l → records second ≡ some l'
    → b ≡ each_alone (limits_of t p s) (magic_string_of source t p s) (recorded_calls l ++ recorded_calls l')

-- of two lists of records: 18, 19, 13, or 0 where they are joined
abbrev pub RefusedWith : List ℕ → List ℕ → List ℕ → List ℕ → List ℕ → List ℕ → ℕ → Type 0
RefusedWith first second source t p s n =
    (l l' : List Recorded) → records first ≡ some l → records second ≡ some l'
    → n ≡ refused_join (limits_of t p s) (magic_string_of source t p s) (recorded_calls l ++ recorded_calls l')

-- both said of a desk's view
abbrev pub BothAloneOn : List ℕ → List ℕ → DeskView → Bool → Type 0
BothAloneOn first second d = BothAlone first second d.source.now d.chunks.now d.pieces.now d.store.now

abbrev pub RefusedOn : List ℕ → List ℕ → DeskView → ℕ → Type 0
RefusedOn first second d = RefusedWith first second d.source.now d.chunks.now d.pieces.now d.store.now
