use lib.ListN.{length}
use Rattle.sheet_records.specs.Found.{Counted}
use Rattle.sheet_run.proofs.Running.{Running}
use Rattle.sheet_run.proofs.records.run_records.Given as goal

abbrev pub invariant-loop-i : goal.invariant-loop-i
invariant-loop-i l = Running l.records l.source l.initial.chunks l.initial.pieces l.initial.store l.initial.answers l.n l.at l.i l.chunks l.pieces l.store l.answers l.used × Counted l.records (length l.initial.answers) l.n
