-- `is_empty::is_empty` meets its contract.
use Rattle.memory_fragments.specs.Sections.{chunk_texts}
use Rattle.report_is_empty.proofs.Empty.{Blank}
use Rattle.report_is_empty.proofs.is_empty.Given as goal

abbrev pub invariant-loop-t : goal.invariant-loop-t
invariant-loop-t l = Blank (chunk_texts l.desk) l.t-iterator
