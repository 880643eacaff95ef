use Rattle.edit_room_above.proofs.Passing.{RunAt}
use Rattle.edit_room_above.proofs.live_run.Given as goal

abbrev pub invariant-loop-i : goal.invariant-loop-i
invariant-loop-i l = RunAt l.p l.s l.at l.n l.c l.i l.byte
