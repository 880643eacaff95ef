use mathlib.Core.Path.{sym, subst}
use Rattle.model_join.proofs.Lists.{list_long, list_read, list_broken}
use Rattle.join_lists.specs.Judged.{JudgesList}
use native.Mathlib.Omega.{arith}
use Rattle.join_lists.proofs.judge_list.Goals as goal

pub returns-then-s-gt-MOST_BYTES : goal.returns-then-s-gt-MOST_BYTES
returns-then-s-gt-MOST_BYTES c = list_long _ c.if-s-gt-MOST_BYTES.true

pub returns : goal.returns
returns c =
    let d = c.in_ok-records.ensures.counted in
    let few = d.few in
    record { counted = d; is = list_read _ c.if-s-gt-MOST_BYTES.false d.are (omega (arith, d.count)) }

pub returns-in_err-records : goal.returns-in_err-records
returns-in_err-records c = subst (JudgesList _) (sym c.from_residual.ensures) (list_broken _ c.in_err-records.ensures)
