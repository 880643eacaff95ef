use mathlib.Core.Path.{refl}
use Rattle.memory.specs.WellFormed.{Lengths}
use Rattle.sheet_run.proofs.Codes.{code_above, handed_back}
use Rattle.join.proofs.Joining.{joins_first, joins_second, joins_broken, joins_done}
use Rattle.join.proofs.join.Goals as goal

pub returns-in_default : goal.returns-in_default
returns-in_default c = joins_first c.requires.well_formed c.in_default.ensures (refl, refl)

pub returns-in_default-judge_list : goal.returns-in_default-judge_list
returns-in_default-judge_list c = joins_second c.requires.well_formed c.in_default-judge_list.ensures (refl, refl)

pub test_premises-requires : goal.test_premises-requires
test_premises-requires c = c.requires.well_formed

pub returns-in_err-test_premises : goal.returns-in_err-test_premises
returns-in_err-test_premises c =
    joins_broken c.requires.well_formed c.in-Some.ensures c.in-Some-judge_list.ensures c.in_err-test_premises.ensures (code_above c.in_err-test_premises.field-0.0)
    (handed_back _ c.from_residual.result c.from_residual.ensures)

pub run_both-cuts-requires : goal.run_both-cuts-requires
run_both-cuts-requires c = record { desk = c.requires; counted = c.in-Some.ensures.counted; counted_2 = c.in-Some-judge_list.ensures.counted }

pub returns : goal.returns
returns c =
    let same : Lengths _ _ _ _ _ _ = record { chunks = c.run_both-cuts.auto.chunks; pieces = c.run_both-cuts.auto.pieces; store = c.run_both-cuts.auto.store } in
    joins_done c.requires.well_formed c.in-Some.ensures c.in-Some-judge_list.ensures c.in_ok-test_premises.ensures refl same c.run_both-cuts.ensures
