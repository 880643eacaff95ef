-- `join_alone::each_alone_by` meets its contract: the invariant is `Trying`, and that the tables of the copy keep their lengths.
use mathlib.Core.Path.{◌≡◌}
use Rattle.memory.specs.WellFormed.{Lengths}
use Rattle.sheet_records.specs.Found.{walk_bytes, walk_at}
use Rattle.join_alone.proofs.Trials.{Trying}
use Rattle.join_alone.proofs.each_alone_by.Given as goal

abbrev pub invariant-loop-entry : goal.invariant-loop-entry
invariant-loop-entry l =
    (walk_bytes l.entry-iterator ≡ l.records) × Trying l.desk.source.now l.desk.chunks.now l.desk.pieces.now l.desk.store.now l.records (walk_at l.entry-iterator)
    × Lengths l.desk.chunks.now l.desk.pieces.now l.desk.store.now l.t l.p l.s
