-- `last_char::last_code` meets its contract.
use mathlib.Core.Path.{sym, ◌∙◌}
use Rattle.report_last_char.proofs.Backwards.{code_empty, code_last, code_other}
use Rattle.report_last_char.proofs.last_code.Goals as goal

pub returns-then-is_empty : goal.returns-then-is_empty
returns-then-is_empty c = code_empty _ c.if-is_empty.ensures

pub returns-in_default : goal.returns-in_default
returns-in_default c = code_other _ _ c.requires c.last_start-at.ensures c.decode.result (sym c.decode.ensures) c.in_default.not-Char

pub returns : goal.returns
returns c = code_last _ _ c.requires c.last_start-at.ensures _ _ (sym c.decode.ensures ∙ c.in-Char.is)
