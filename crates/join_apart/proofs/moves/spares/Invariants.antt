-- The invariant: the records passed are spared.
use mathlib.Core.Path.{◌≡◌}
use mathlib.Core.Bool.{true}
use mathlib.Core.List.{List}
use Rattle.model.specs.Text.{all}
use Rattle.model.specs.Call.{Edit}
use Rattle.model_join.specs.Tests.{free_of}
use Rattle.sheet_records.specs.Found.{walk_bytes, walk_at}
use Rattle.join_apart.specs.Moves.{edit_of}
use Rattle.join_apart.proofs.Upto.{Walking}
use Rattle.join_apart.proofs.moves.spares.Given as goal

-- every call is spared by a move
abbrev pub Spared : Edit → List Edit → Type 0
Spared x E = all (free_of x) E ≡ true

abbrev pub invariant-loop-entry : goal.invariant-loop-entry
invariant-loop-entry w = (walk_bytes w.entry-iterator ≡ w.records) × Walking (Spared (edit_of w.moved)) w.records (walk_at w.entry-iterator)
