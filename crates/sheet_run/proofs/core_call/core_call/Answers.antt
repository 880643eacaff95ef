use mathlib.Core.Path.{refl, sym, ap, ◌∙◌}
use Rattle.model_sheet.specs.Sheet.{inserts_left, inserts_front}
use Rattle.sheet_records.specs.Kinds.{code}
use Rattle.sheet_records.specs.declared.kinds.Kind.TheVariants.{Remove, Update, Reset, Relocate}
use Rattle.sheet_records.proofs.OfKinds.{none_is, not_remove, not_update, not_reset, not_relocate}
use Rattle.sheet_run.proofs.CallOf.{leaves_as, of_remove, of_update, of_reset, of_relocate, of_insert}
use Rattle.sheet_run.proofs.core_call.core_call.Goals as goal

pub returns-in_default : goal.returns-in_default
returns-in_default c =
    let a = c.args in
    let h = c.in_default.ensures in
    leaves_as
    (of_insert a.a a.b a.c a.text.now a.kind c.inserts_left.ensures refl (none_is Remove a.kind h) (none_is Update a.kind h) (none_is Reset a.kind h) (none_is Relocate a.kind h))
    c.insert.ensures

pub returns-in-Remove : goal.returns-in-Remove
returns-in-Remove c = let a = c.args in leaves_as (of_remove a.a a.b a.c a.text.now a.kind (sym c.in-Ok.ensures ∙ ap code c.in-Remove.is)) c.remove.ensures

pub returns-in-Update : goal.returns-in-Update
returns-in-Update c = let a = c.args in leaves_as (of_update a.a a.b a.c a.text.now a.kind (sym c.in-Ok.ensures ∙ ap code c.in-Update.is)) c.update_with.ensures

pub returns-in-Reset : goal.returns-in-Reset
returns-in-Reset c = let a = c.args in leaves_as (of_reset a.a a.b a.c a.text.now a.kind (sym c.in-Ok.ensures ∙ ap code c.in-Reset.is)) c.reset.ensures

pub returns-in-Relocate : goal.returns-in-Relocate
returns-in-Relocate c = let a = c.args in leaves_as (of_relocate a.a a.b a.c a.text.now a.kind (sym c.in-Ok.ensures ∙ ap code c.in-Relocate.is)) c.relocate.ensures

pub returns-in_default-known : goal.returns-in_default-known
returns-in_default-known c =
    let a = c.args in
    let k = c.in-Ok.known in
    let e = c.in-Ok.ensures in
    let d = c.in_default-known in
    leaves_as
    (of_insert a.a a.b a.c a.text.now a.kind (c.inserts_left-in_default-known.ensures ∙ ap inserts_left e) (c.inserts_front.ensures ∙ ap inserts_front e)
    (λ q. not_remove k d.not-Remove (e ∙ q)) (λ q. not_update k d.not-Update (e ∙ q)) (λ q. not_reset k d.not-Reset (e ∙ q)) (λ q. not_relocate k d.not-Relocate (e ∙ q)))
    c.insert-in_default-known.ensures
