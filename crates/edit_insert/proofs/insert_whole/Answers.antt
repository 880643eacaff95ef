-- `insert_whole` meets its contract: a refusal by the test leaves all as it was, else it is what `insert_either` gives.
use mathlib.Core.Path.{sym, ◌∙◌}
use Rattle.edit_insert.proofs.Tests.{addition_invalid, addition_ran}
use Rattle.edit_insert.proofs.insert_whole.Goals as goal

pub returns-then-not-valid : goal.returns-then-not-valid
returns-then-not-valid c =
    let text-is = sym c.valid.ensures ∙ c.if-not-valid.true in
    record { ran = addition_invalid _ c.requires.well_formed c.args.tail text-is; above = c.requires.above }

pub insert_either-requires : goal.insert_either-requires
insert_either-requires c = c.requires

pub returns : goal.returns
returns c =
    let text-is = sym c.valid.ensures ∙ c.if-not-valid.false in
    record { ran = addition_ran _ c.requires.well_formed c.args.tail text-is c.insert_either.ensures.0; above = c.insert_either.ensures.1 }
