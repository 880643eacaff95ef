use native.Mathlib.Omega.{arith}
use Rattle.check_runs_apart.proofs.Runs.{steps_none, steps_markable, steps_more, steps_no, steps_done}
use Rattle.check_texts_apart.specs.Places.{entry_of_row}
use Rattle.check_texts_apart.proofs.Places.{entry_few}
use Rattle.check_texts_apart.proofs.mark_rows.Goals as goal

pub loop-i-init : goal.loop-i-init
loop-i-init c = steps_none c.requires.markable _ _ _

pub mark_entry-requires-clause-markable : goal.mark_entry-requires-clause-markable
mark_entry-requires-clause-markable c = steps_markable c.requires.markable c.loop-i.invariant

pub loop-i-preserved : goal.loop-i-preserved
loop-i-preserved c =
    let few = entry_few (entry_of_row c.args.t.now c.loop-i.i) (steps_markable c.requires.markable c.loop-i.invariant) c.in_ok-used.ensures in
    steps_more c.requires.markable c.loop-i.invariant c.in_ok-used.ensures few c.mark_entry.auto.rows c.mark_entry.auto.marks

pub returns-in_err-used : goal.returns-in_err-used
returns-in_err-used c =
    rw c.from_residual.ensures (steps_no c.requires.markable c.loop-i.invariant c.in_err-used.ensures _ c.loop-i-test.true _ _)

pub returns : goal.returns
returns c = steps_done c.requires.markable c.loop-i.invariant _ (omega arith)
