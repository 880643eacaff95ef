use Rattle.check_bit_marks.proofs.Marking.{marks_clear}
use Rattle.check_links.proofs.walked.Goals as goal

pub walk-requires-clause-by_index : goal.walk-requires-clause-by_index
walk-requires-clause-by_index c = marks_clear 256
