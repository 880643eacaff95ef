-- `reports::to_string` meets its contract.
use Rattle.report_output.proofs.Writing.{told_14, told_output}
use Rattle.report_output.proofs.to_string.Goals as goal

pub returns-then-out-n : goal.returns-then-out-n
returns-then-out-n c = told_14 _ _ c.output_len-n.ensures _ c.if-out-n.true

pub returns : goal.returns
returns c = told_output _ _ c.output_len-n.ensures _ _ c.if-out-n.false c.write_output.ensures
