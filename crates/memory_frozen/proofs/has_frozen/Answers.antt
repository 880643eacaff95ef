use mathlib.Core.Path.{sym, ◌∙◌}
use Rattle.memory_frozen.specs.Frozen.{refuses}
use Rattle.memory_frozen.proofs.Frozen.{unmarked_none, not_frozen}
use Rattle.memory_frozen.proofs.has_frozen.Goals as goal

pub returns-else-has_mark : goal.returns-else-has_mark
returns-else-has_mark c =
    c.if-has_mark.false ∙ sym (unmarked_none (refuses c.args.whole c.args.a c.args.b) c.args.t.now c.requires (c.has_mark.ensures c.if-has_mark.false) (not_frozen c.args.whole c.args.a c.args.b))
