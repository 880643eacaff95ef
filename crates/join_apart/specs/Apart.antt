-- What judging two lists answers.
use Rattle.std.specs.Prelude.{ℕ, ◌≡◌, Bool, List, ◌++◌}
use Rattle.std.proofs.Math.Option.{some}
use Rattle.model_sheet.specs.Record.{Recorded, records}
use Rattle.model_sheet.specs.Sheet.{recorded_calls}
use Rattle.model_join.specs.Tests.{edits_apart}

-- of records, the any-order rule's premises on the calls of both lists over a source of n bytes. Bytes that are no records were refused before
abbrev pub Apart : ℕ → List ℕ → List ℕ → Bool → Type 0
Apart n first second r = (l l' : List Recorded) → records first ≡ some l → records second ≡ some l' → r ≡ edits_apart n (recorded_calls l ++ recorded_calls l')
