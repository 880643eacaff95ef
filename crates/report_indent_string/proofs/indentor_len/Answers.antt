-- `indent_string::indentor_len` meets its contract.
use mathlib.Core.Path.{sym}
use Rattle.report_indent_string.proofs.Tallies.{tab_text, spaces_text, text_length}
use Rattle.report_indent_string.proofs.indentor_len.Goals as goal

pub returns-in-Tab : goal.returns-in-Tab
returns-in-Tab c = sym (text_length c.args.g 1 _ (tab_text c.args.g c.in-Tab.is))

pub returns-in-Spaces : goal.returns-in-Spaces
returns-in-Spaces c = sym (text_length c.args.g c.in-Spaces.n _ (spaces_text c.args.g _ _ c.in-Spaces.is))
