use Rattle.indent_mark.proofs.Fills.{fill_byte}
use Rattle.indent_write.proofs.put_byte.Goals as goal

pub returns : goal.returns
returns c = fill_byte _ _ _ c.if-out-place.false
