use Rattle.replay_digest.proofs.Walks.{Rows}
use Rattle.replay_digest.proofs.mix_rows.Given as goal

abbrev pub invariant-loop-section : goal.invariant-loop-section
invariant-loop-section l = Rows l.desk.chunks.now l.h l.stop l.d l.section l.row
