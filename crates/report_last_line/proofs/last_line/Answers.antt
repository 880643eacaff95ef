-- `last_line::last_line` meets its contract.
use native.Mathlib.Omega.{arith}
use Rattle.report_last_line.proofs.Lines.{told_14, told_line}
use Rattle.report_last_line.proofs.last_line.Goals as goal

pub line_start-line-requires : goal.line_start-line-requires
line_start-line-requires c = c.requires

pub returns-then-out-n : goal.returns-then-out-n
returns-then-out-n c = told_14 _ _ _ _ _ _ _ _ _ c.line_start-line.ensures _ c.if-out-n.true

pub write_line-requires : goal.write_line-requires
write_line-requires c = record { well_formed = c.requires; line_from = c.line_start-line.ensures; n_in_bounds = omega (arith, c.if-out-n.false) }

pub returns : goal.returns
returns c = told_line _ _ _ _ _ _ _ _ _ c.line_start-line.ensures _ _ c.if-out-n.false c.write_line.ensures
