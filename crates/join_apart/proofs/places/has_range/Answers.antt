use mathlib.Core.Path.{ap, ◌∙◌}
use Rattle.sheet_records.specs.declared.kinds.Kind.TheVariants.{Remove, Update, Reset}
use Rattle.sheet_records.proofs.OfKinds.{none_is}
use Rattle.join_apart.specs.Kinds.{is_range}
use Rattle.join_apart.proofs.ByKind.{no_range}
use Rattle.join_apart.proofs.places.has_range.Goals as goal

pub returns-in-Ok : goal.returns-in-Ok
returns-in-Ok c = c.known_has_range.ensures ∙ ap is_range c.in-Ok.ensures

pub returns-in-Err : goal.returns-in-Err
returns-in-Err c =
    let k = c.args.kind in
    let h = c.in-Err.ensures in
    no_range k (none_is Remove k h) (none_is Update k h) (none_is Reset k h)
