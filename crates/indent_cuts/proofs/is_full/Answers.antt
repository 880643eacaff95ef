use mathlib.Core.Path.{ap}
use lib.Dec.{leb}
use Rattle.memory_layout.specs.Layout.{CHUNKS}
use Rattle.memory_table.specs.declared.Row.{Row}
use Rattle.indent_cuts.proofs.is_full.Goals as goal

pub returns : goal.returns
returns c = ap (λ (r : Row). leb CHUNKS r.start) c.get_row-z.ensures
