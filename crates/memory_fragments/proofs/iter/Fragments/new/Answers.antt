use mathlib.Core.Path.{ap, ◌∙◌}
use native.Mathlib.Omega.{arith}
use lib.ListN.{length}
use Rattle.model.specs.Text.{sum}
use Rattle.memory_fragments.proofs.Output.{output_bound}
use Rattle.memory_fragments.proofs.Sections.{on_first, rest_first}
use Rattle.memory_fragments.proofs.iter.Fragments.new.Goals as goal

pub returns-clause-texts : goal.returns-clause-texts
returns-clause-texts c = c.from_place.ensures.texts ∙ rest_first _ _ _ _

pub from_place-requires-clause-on : goal.from_place-requires-clause-on
from_place-requires-clause-on c = on_first _

pub returns-clause-short : goal.returns-clause-short
returns-clause-short c = omega (arith, ap (sum length) (returns-clause-texts c), output_bound c.args.desk.source.now c.args.desk.chunks.now c.args.desk.pieces.now c.args.desk.store.now c.requires)
