-- `totals::chunks_total` meets its contract.
use mathlib.Core.Path.{ap, ◌∙◌}
use native.Mathlib.Omega.{arith}
use Rattle.model.specs.Text.{sum}
use Rattle.memory.specs.Layout.{magic_string_of}
use Rattle.report_measures.specs.Measures.{measure_of}
use Rattle.report_totals.proofs.chunks_total.Goals as goal

pub returns : goal.returns
unfolding magic_string_of
returns c =
    let e = c.total.ensures ∙ ap (sum (measure_of c.args.m)) c.of_chunks.ensures.texts in
    record { total = omega (arith, e) }
