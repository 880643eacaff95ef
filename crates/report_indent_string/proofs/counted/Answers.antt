-- `indent_string::counted` meets its contract.
use Rattle.report_indent_string.proofs.Tallies.{adds_spaced, holds_spaced}
use Rattle.report_indent_string.proofs.counted.Goals as goal

pub returns : goal.returns
returns c = (adds_spaced c.args.t _ _ c.if-first-eq9.false c.if-n-lt2.false c.if-n-t.false, holds_spaced c.args.t _ _ c.if-n-t.false)
