-- `has_changed::has_changed` meets its contract.
use mathlib.Core.Path.{◌≡◌}
use Rattle.utf8.specs.Chars.{concat}
use Rattle.model.specs.Text.{same}
use Rattle.memory_fragments.specs.Sections.{all_texts}
use Rattle.report_has_changed.proofs.has_changed.Given as goal

abbrev pub invariant-loop-t : goal.invariant-loop-t
invariant-loop-t l = same l.desk.source.now (concat (all_texts l.desk)) ≡ same l.left (concat l.t-iterator)
