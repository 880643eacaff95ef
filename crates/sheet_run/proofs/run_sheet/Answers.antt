use mathlib.Core.Path.{refl, sym, subst}
use native.Mathlib.Omega.{arith}
use Rattle.memory_layout.specs.Refusals.{number_of, value_of}
use Rattle.sheet_run.specs.SheetRan.{SheetDone}
use Rattle.sheet_run.proofs.Codes.{code_above, handed_back}
use Rattle.sheet_run.proofs.Ran.{done_16, done_open, done_14, done_0, records_counted}
use Rattle.sheet_run.proofs.run_sheet.Goals as goal

pub returns-in_default : goal.returns-in_default
returns-in_default c = done_16 _ _ _ _ _ c.in_default.ensures (refl, refl)

pub overflow_add-behind : goal.overflow_add-behind
overflow_add-behind c = omega (arith, c.in-Some.ensures.there)

pub slice_bounds-source-end : goal.slice_bounds-source-end
slice_bounds-source-end c = omega (arith, c.in-Some.ensures.there)

pub returns-in_err-judge_source : goal.returns-in_err-judge_source
returns-in_err-judge_source c =
    done_open _ _ _ _ _ c.in-Some.ensures c.in_err-judge_source.ensures (code_above c.in_err-judge_source.field-0.0)
    (handed_back _ c.from_residual.result c.from_residual.ensures)

pub returns-then-answers-shape : goal.returns-then-answers-shape
returns-then-answers-shape c = done_14 _ _ _ _ _ c.in-Some.ensures c.in_ok-judge_source.ensures c.if-answers-shape.true (refl, refl)

pub returns : goal.returns
returns c =
    done_0 _ _ _ _ _ c.in-Some.ensures c.in_ok-judge_source.ensures c.open_rows-used.ensures c.open_rows-used.auto.chunks c.if-answers-shape.false c.run_records.ensures
