use mathlib.Core.Path.{ap}
use Rattle.memory_table.specs.declared.Row.{Row}
use Rattle.indent_turns.specs.Walk.{chunks_from}
use Rattle.indent_turns.proofs.chunks_begin.Goals as goal

pub returns : goal.returns
returns c = ap (λ (z : Row). chunks_from z c.args.top c.args.byte) c.get_row-z.ensures
