use mathlib.Core.Path.{sym, ap, subst, ◌∙◌}
use mathlib.Core.Bool.{Bool, not}
use mathlib.Core.List.{List, []}
use Rattle.utf8.specs.Chars.{concat}
use Rattle.model.specs.Text.{Text, same}
use Rattle.model.specs.Call.{bit, has_changed as HasChanged}
use Rattle.memory.specs.Layout.{magic_string_of}
use Rattle.memory.specs.Calls.{Told}
use Rattle.report_has_changed.proofs.Compare.{changed_here, same_so_far, changed_done}
use Rattle.report_has_changed.proofs.has_changed.Goals as goal

pub loop-t-init : goal.loop-t-init
loop-t-init c = ap (λ (ts : List Text). same c.args.desk.source.now (concat ts)) (sym (c.into_iter-t-iterator.ensures.into_iter_gives ∙ c.new-t-items.ensures.texts))

pub returns-in_default : goal.returns-in_default
returns-in_default c = changed_here c.requires _ c.loop-t.invariant c.in-Some.ensures.steps c.in_default.ensures.cases

pub loop-t-preserved : goal.loop-t-preserved
loop-t-preserved c =
    let found = c.in-Some-strip_prefix.ensures.cases in
    same_so_far c.requires _ c.loop-t.invariant c.in-Some.ensures.steps found.0 found.1

pub returns : goal.returns
returns c =
    let Tells : Bool → Type 0 = λ b. Told HasChanged (magic_string_of c.args.desk.source.now c.args.desk.chunks.now c.args.desk.pieces.now c.args.desk.store.now) [] [] 0 (bit (not b)) in
    subst Tells (sym c.is_empty.ensures) (changed_done c.requires _ c.loop-t.invariant c.in-None.ensures.steps.0)
