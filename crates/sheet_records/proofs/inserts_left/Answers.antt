use mathlib.Core.Path.{ap, ◌∙◌}
use Rattle.model_sheet.specs.Sheet.{inserts_left}
use Rattle.sheet_records.proofs.OfKinds.{none_left}
use Rattle.sheet_records.proofs.inserts_left.Goals as goal

pub returns-in-Ok : goal.returns-in-Ok
returns-in-Ok c = c.inserts_left.ensures ∙ ap inserts_left c.in-Ok.ensures

pub returns-in-Err : goal.returns-in-Err
returns-in-Err c = none_left c.args.kind c.in-Err.ensures
