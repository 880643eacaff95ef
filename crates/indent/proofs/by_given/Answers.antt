use mathlib.Core.Path.{◌≡◌, refl, sym, ◌∙◌}
use lib.ListN.{length}
use native.Mathlib.Omega.{arith}
use Rattle.std.proofs.lemmas.Grind.{common_steps}
use mathlib.Core.Option.{some}
use Rattle.memory.proofs.Desks.{valid_source}
use Rattle.indent.proofs.Call.{given_invalid, refused, given_empty, given_ran}
use Rattle.indent.proofs.by_given.Goals as goal

pub returns-then-not-valid : goal.returns-then-not-valid
returns-then-not-valid c =
    let invalid = sym c.valid.ensures ∙ c.if-not-valid.true in
    record { ran = given_invalid c.requires.desk.well_formed c.args.exclude.now c.requires.exclude_value c.args.indentor.now invalid; above = c.requires.desk.above }

pub refused-requires : goal.refused-requires
refused-requires c = let w = c.requires.desk.well_formed in record { source_value = valid_source w; linked = w.readable.linked }

pub returns-in-Err : goal.returns-in-Err
returns-in-Err c =
    let valid = sym c.valid.ensures ∙ c.if-not-valid.false in
    refused _ _ _ _ _ c.requires.exclude_value c.in-Err.ensures (some c.args.indentor.now) (rw valid) c.requires.desk c.in-Err.refusal refl

pub returns-then-is_empty : goal.returns-then-is_empty
returns-then-is_empty c =
    let valid = sym c.valid.ensures ∙ c.if-not-valid.false in
    let empty : length c.args.indentor.now ≡ 0 = grind (arith, common_steps) in
    record { ran = given_empty _ _ _ _ _ c.requires.exclude_value c.in_default.ensures refl c.args.indentor.now valid c.requires.desk.well_formed empty; above = c.requires.desk.above }

pub returns : goal.returns
returns c =
    let valid = sym c.valid.ensures ∙ c.if-not-valid.false in
    let some : length c.args.indentor.now ≡ 0 → ⊥ = grind (arith, common_steps) in
    let ran = given_ran _ _ _ _ _ c.requires.exclude_value c.in_default.ensures refl c.args.indentor.now valid some c.indent_scratch.ensures.0 in
    record { ran = ran; above = c.indent_scratch.ensures.1 }
