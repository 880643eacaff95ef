use mathlib.Core.Path.{sym, ap, ◌∙◌}
use Rattle.memory_table.specs.declared.Row.{Row}
use Rattle.memory_table.specs.Order.{entry_of}
use Rattle.memory_list.specs.Find.{meets}
use Rattle.memory_list.proofs.Walks.{none_passed, at_next, one_more, all_passed}
use Rattle.memory_list.proofs.find.Goals as goal

pub loop-i-init : goal.loop-i-init
loop-i-init c = none_passed _ _ _ (c.into_iter-i-iterator.ensures.into_iter_gives ∙ c.rows-i-items.ensures)

pub returns-then-meets_key : goal.returns-then-meets_key
returns-then-meets_key c =
    let at = at_next _ _ _ c.loop-i.invariant c.in-Some.ensures.steps in
    record {
      us = at.us;
      bs = at.bs;
      place = at.place;
      none = at.before;
      here = sym (ap (λ (r : Row). meets c.args.key c.args.p (entry_of r)) at.row) ∙ sym c.meets_key.ensures ∙ c.if-meets_key.true;
    }

pub loop-i-preserved : goal.loop-i-preserved
loop-i-preserved c =
    let at = at_next _ _ _ c.loop-i.invariant c.in-Some.ensures.steps in
    one_more _ _ _ at (sym (ap (λ (r : Row). meets c.args.key c.args.p (entry_of r)) at.row) ∙ sym c.meets_key.ensures ∙ c.if-meets_key.false)

pub returns : goal.returns
returns c = all_passed _ _ _ c.loop-i.invariant c.in-None.ensures.steps.0
