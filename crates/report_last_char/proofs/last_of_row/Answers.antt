-- `last_char::last_of_row` meets its contract.
use mathlib.Core.Path.{ap, ◌∙◌}
use Rattle.utf8.specs.Rfc3629.{utf8}
use Rattle.memory_table.specs.Order.{entry_of}
use Rattle.report_last_char.proofs.Backwards.{intro_valid, content_valid, outro_valid}
use Rattle.report_last_char.proofs.last_of_row.Goals as goal

pub last_of_run-requires-clause-all : goal.last_of_run-requires-clause-all
last_of_run-requires-clause-all c = outro_valid _ _ _ (entry_of c.args.row) c.requires.all

pub last_code-requires : goal.last_code-requires
last_code-requires c = ap utf8 c.content-text.ensures ∙ content_valid _ _ _ (entry_of c.args.row) c.requires.all

pub last_of_run-requires-2-clause-all : goal.last_of_run-requires-2-clause-all
last_of_run-requires-2-clause-all c = intro_valid _ _ _ (entry_of c.args.row) c.requires.all
