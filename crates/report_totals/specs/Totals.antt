-- A measure summed over a desk's chunks.
use Rattle.std.specs.Prelude.{◌≡◌, ℕ}
use Rattle.model.specs.Text.{sum}
use Rattle.model.specs.MagicString.{MagicString, chunk_fragments}
use Rattle.report_measures.specs.declared.Measure.{Measure}
use Rattle.report_measures.specs.Measures.{measure_of}

-- head and tail are left out
pub record OfChunks (m : Measure) (d : MagicString) (n : ℕ) : Type 0 where
  pub total : n ≡ sum (measure_of m) (chunk_fragments d.source d.chunks)
