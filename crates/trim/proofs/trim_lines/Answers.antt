use Rattle.model.specs.Call.{trim_lines}
use Rattle.trim.proofs.Call.{asks_lines}
use Rattle.trim.proofs.trim_lines.Goals as goal

pub returns : goal.returns
returns c = c.trim_sides.ensures trim_lines asks_lines
