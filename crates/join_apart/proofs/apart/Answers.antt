use mathlib.Core.Path.{◌∙◌}
use mathlib.Core.List.{◌++◌}
use native.Mathlib.Omega.{arith}
use Rattle.model_sheet.specs.Sheet.{recorded_calls}
use Rattle.join_apart.proofs.Judging.{both_listed, apart_empty, apart_yes, apart_no}
use Rattle.join_apart.proofs.apart.Goals as goal

pub returns-then-n-eq0 : goal.returns-then-n-eq0
returns-then-n-eq0 c l l' q q' = apart_empty c.args.n (recorded_calls l ++ recorded_calls l') c.if-n-eq0.true

pub returns-then-places_apart : goal.returns-then-places_apart
returns-then-places_apart c l l' q q' =
    let n = c.args.n in
    let once = (c.places_apart.ensures l l' q q').yes c.if-places_apart.true in
    c.moves_free.ensures l l' q q' ∙ apart_yes n (recorded_calls l ++ recorded_calls l') (both_listed l l') (omega arith) once

pub returns-else-places_apart : goal.returns-else-places_apart
returns-else-places_apart c l l' q q' =
    let n = c.args.n in
    c.if-places_apart.false ∙ apart_no n (recorded_calls l ++ recorded_calls l') (both_listed l l') ((c.places_apart.ensures l l' q q').no c.if-places_apart.false)
