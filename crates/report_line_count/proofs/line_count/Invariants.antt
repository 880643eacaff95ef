-- `line_count` meets its contract.
use Rattle.memory_fragments.specs.Sections.{all_texts}
use Rattle.report_line_count.proofs.Lines.{Lines}
use Rattle.report_line_count.proofs.line_count.Given as goal

abbrev pub invariant-loop-t : goal.invariant-loop-t
invariant-loop-t l = Lines (all_texts l.desk) l.t-iterator l.n l.last
