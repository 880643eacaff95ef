use mathlib.Core.Path.{sym, ◌∙◌}
use Rattle.indent_mark.proofs.Fills.{fill_then}
use Rattle.indent_write.proofs.put_indented.Goals as goal

pub returns : goal.returns
returns c = rw (sym c.takes_mark.ensures ∙ c.if-not-takes_mark.false) (fill_then c.in_ok-front.ensures _ _ _ c.put_byte-2.ensures)
