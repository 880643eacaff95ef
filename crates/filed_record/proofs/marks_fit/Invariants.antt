-- `filed_record::marks_fit` meets its contract.
use Rattle.filed_record.proofs.Marks.{Low}
use Rattle.filed_record.proofs.marks_fit.Given as goal

abbrev pub invariant-loop-marks : goal.invariant-loop-marks
invariant-loop-marks l = Low l.bytes l.marks-index
