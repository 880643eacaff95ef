-- `reports::write_output` meets its contract.
use Prim.Native.Nat.{◌-◌}
use Rattle.report_output.proofs.Writing.{Sectioning}
use Rattle.report_output.proofs.write_output.Given as goal

abbrev pub invariant-loop-section : goal.invariant-loop-section
invariant-loop-section l = Sectioning l.desk.source.now l.desk.chunks.now l.desk.pieces.now l.desk.store.now l.initial.out l.stop l.out l.section l.row l.o

abbrev pub decreases-loop-section : goal.decreases-loop-section
decreases-loop-section l = l.stop - l.section
