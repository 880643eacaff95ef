use mathlib.Core.Path.{ap, ◌∙◌}
use Rattle.memory_table.specs.declared.Row.{Row}
use Rattle.memory_table.specs.Order.{entry_of}
use Rattle.memory_table.specs.Sides.{side}
use Rattle.memory.specs.Layout.{Place}
use Rattle.indent_turns.specs.Walk.{run_from}
use Rattle.indent_turns.proofs.run_begins.Goals as goal

pub returns : goal.returns
returns g c = ap (λ (x : Place). run_from c.args.part x c.args.top c.args.byte) (c.side-q.ensures ∙ ap (λ (z : Row). side c.args.outro (entry_of z)) c.get_row-z.ensures)
