use mathlib.Core.Path.{sym, ◌∙◌}
use Rattle.std.proofs.Common.{rules}
use Rattle.std.proofs.lemmas.Iterator.Search.{any_from_yields_List}
use Rattle.memory_table.specs.Order.{entry_of, entries, order}
use Rattle.memory_list.proofs.Walks.{along}
use Rattle.memory_frozen.specs.Frozen.{refuses}
use Rattle.memory_frozen.proofs.Frozen.{any_list}
use Rattle.memory_frozen.proofs.find_frozen.Goals as goal

pub returns : goal.returns
returns c =
    any_from_yields_List (refuses c.args.whole c.args.a c.args.b) _ _ _ c.any.ensures.ran (along (λ x. entry_of x.1) c.args.t.now (order c.args.t.now) c.rows.ensures) (λ x b q k. search rules)
    ∙ sym (any_list (refuses c.args.whole c.args.a c.args.b) (entries c.args.t.now))
