use mathlib.Core.Path.{sym, ◌∙◌}
use Rattle.edit_change_range_steps.proofs.Range.{tried_refused, tried_changed}
use Rattle.edit_change_range_steps.proofs.change_unless_frozen.Goals as goal

pub returns-then-is_refused : goal.returns-then-is_refused
returns-then-is_refused c = tried_refused (sym c.is_refused.ensures ∙ c.if-is_refused.true)

pub returns : goal.returns
returns c = tried_changed (sym c.is_refused.ensures ∙ c.if-is_refused.false) c.change_rows.ensures
