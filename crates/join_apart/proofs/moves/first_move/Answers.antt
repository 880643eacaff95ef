use mathlib.Core.Path.{sym, ◌∙◌}
use Rattle.model_sheet.specs.Sheet.{recorded_calls}
use Rattle.join_apart.specs.Moves.{edit_of}
use Rattle.join_apart.proofs.Sparing.{first_of_first, first_of_second}
use Rattle.join_apart.proofs.moves.first_move.Goals as goal

pub returns-in-Some : goal.returns-in-Some
returns-in-Some c l l' q q' = sym (first_of_first (recorded_calls l) (recorded_calls l') (edit_of c.in-Some.moved) (sym (c.in-Some.ensures l q)))

pub returns-in-None : goal.returns-in-None
returns-in-None c l l' q q' = c.find_move-in-None.ensures l' q' ∙ sym (first_of_second (recorded_calls l) (recorded_calls l') (sym (c.in-None.ensures l q)))
