use mathlib.Core.Path.{ap, ◌∙◌, subst}
use Rattle.memory_table.specs.Table.{Put}
use Rattle.memory_table.specs.Sides.{with_side}
use Rattle.memory.specs.Layout.{Place}
use Rattle.indent_head_tail.specs.Own.{moved}
use Rattle.indent_turns.proofs.run_ends.Goals as goal

pub returns : goal.returns
returns c =
    record {
      put = subst (Put c.args.t.now _ 0)
          (c.with_side.ensures
          ∙ ap (λ (x : Place). with_side c.args.outro (c.args.top, x.1) c.get_row-z.result) c.side-q.ensures
          ∙ ap (moved c.args.outro c.args.top) c.get_row-z.ensures)
          c.put_row.ensures;
      len = c.put_row.auto.t;
    }
