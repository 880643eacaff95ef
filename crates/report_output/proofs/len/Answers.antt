-- `reports::len` meets its contract.
use Rattle.report_output.proofs.Writing.{told_len}
use Rattle.report_output.proofs.len.Goals as goal

pub returns : goal.returns
returns c = told_len _ _ c.chunks_total.ensures
