-- The invariant: the records passed have no move.
use mathlib.Core.Path.{◌≡◌}
use Rattle.sheet_records.specs.Found.{walk_bytes, walk_at}
use Rattle.join_apart.proofs.Upto.{Walking}
use Rattle.join_apart.proofs.Walks.{Unmoved}
use Rattle.join_apart.proofs.moves.find_move.Given as goal

abbrev pub invariant-loop-entry : goal.invariant-loop-entry
invariant-loop-entry w = (walk_bytes w.entry-iterator ≡ w.records) × Walking Unmoved w.records (walk_at w.entry-iterator)
