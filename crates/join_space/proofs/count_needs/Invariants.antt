-- `join_space::count_needs` meets its contract: the invariant is `Counting`: of any records that the bytes are, those passed are counted.
use mathlib.Core.Path.{◌≡◌}
use Rattle.sheet_records.specs.Found.{walk_bytes, walk_at}
use Rattle.join_space.proofs.Counting.{Counting}
use Rattle.join_space.proofs.count_needs.Given as goal

abbrev pub invariant-loop-entry : goal.invariant-loop-entry
invariant-loop-entry l =
    (walk_bytes l.entry-iterator ≡ l.records) × Counting l.records (walk_at l.entry-iterator) l.needs.calls l.needs.pieces l.needs.bytes
