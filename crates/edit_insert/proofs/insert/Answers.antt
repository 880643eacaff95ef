-- `insert` meets its contract: a refusal by the tests leaves all as it was, else it is what `insert_either` gives.
use mathlib.Core.Path.{sym, ◌∙◌}
use Rattle.memory.proofs.Desks.{valid_source}
use Rattle.edit_insert.proofs.Tests.{insert_invalid, insert_outside, insert_ran}
use Rattle.edit_insert.proofs.insert.Goals as goal

pub boundary-requires : goal.boundary-requires
boundary-requires c = valid_source c.requires.well_formed

pub returns-then-not-valid : goal.returns-then-not-valid
returns-then-not-valid c =
    let text-is = sym c.valid.ensures ∙ c.if-not-valid.true in
    record { ran = insert_invalid _ c.requires.well_formed c.args.at c.args.left c.args.front text-is; above = c.requires.above }

pub returns-then-not-boundary : goal.returns-then-not-boundary
returns-then-not-boundary c =
    let text-is = sym c.valid.ensures ∙ c.if-not-valid.false in
    let place_is = sym c.boundary.ensures ∙ c.if-not-boundary.true in
    record { ran = insert_outside _ c.requires.well_formed c.args.at c.args.left c.args.front text-is place_is; above = c.requires.above }

pub insert_either-requires : goal.insert_either-requires
insert_either-requires c = c.requires

pub returns : goal.returns
returns c =
    let text-is = sym c.valid.ensures ∙ c.if-not-valid.false in
    let place_is = sym c.boundary.ensures ∙ c.if-not-boundary.false in
    record { ran = insert_ran _ c.requires.well_formed c.args.at c.args.left c.args.front text-is place_is c.insert_either.ensures.0; above = c.insert_either.ensures.1 }
