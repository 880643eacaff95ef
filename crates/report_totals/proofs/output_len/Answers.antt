-- `totals::output_len` meets its contract.
use mathlib.Core.Path.{ap, ◌∙◌}
use native.Mathlib.Omega.{arith}
use lib.ListN.{length}
use Rattle.model.specs.Text.{sum}
use Rattle.report_totals.proofs.Counting.{output_length}
use Rattle.report_totals.proofs.output_len.Goals as goal

pub returns : goal.returns
returns c =
    let a = c.args.desk in
    let e = c.total.ensures ∙ ap (sum length) c.new.ensures.texts ∙ output_length a.source.now a.chunks.now a.pieces.now a.store.now c.requires.readable.linked in
    omega (arith, e)
