use Rattle.model_sheet.specs.Sheet.{recorded_calls}
use Rattle.join_apart.specs.Moves.{edit_of}
use Rattle.join_apart.proofs.Judging.{no_move_free, move_free_second, move_free_first}
use Rattle.join_apart.proofs.moves.moves_free.Goals as goal

pub returns-then-spares : goal.returns-then-spares
returns-then-spares c l l' q q' =
    move_free_second (recorded_calls l) (recorded_calls l') (edit_of c.in-Some.moved) (c.in-Some.ensures l l' q q') (c.spares.ensures l q)
    (c.spares-then-spares.ensures l' q') c.if-spares.true

pub returns-else-spares : goal.returns-else-spares
returns-else-spares c l l' q q' =
    move_free_first (recorded_calls l) (recorded_calls l') (edit_of c.in-Some.moved) (c.in-Some.ensures l l' q q') (c.spares.ensures l q) c.if-spares.false

pub returns-in-None : goal.returns-in-None
returns-in-None c l l' q q' = no_move_free (recorded_calls l) (recorded_calls l') (c.in-None.ensures l l' q q')
