-- `reports::len_utf16` meets its contract.
use Rattle.report_output.proofs.Writing.{told_len_utf16}
use Rattle.report_output.proofs.len_utf16.Goals as goal

pub returns : goal.returns
returns c = told_len_utf16 _ _ c.chunks_total.ensures
