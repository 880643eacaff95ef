use mathlib.Core.Path.{subst}
use lib.ListN.{get_or}
use native.Mathlib.Omega.{arith}
use Rattle.model_sheet.specs.Sheet.{line}
use Rattle.sheet_lines.specs.Lines.{PutText}
use Rattle.sheet_lines.proofs.Printing.{printing_none, printing_more, printing_done, not_none, answer_below}
use Rattle.sheet_lines.proofs.put_lines.Goals as goal

pub loop-i-init : goal.loop-i-init
loop-i-init c = printing_none c.args.records.now c.args.n c.args.answers.now c.args.out.now c.requires.counted

pub put_line-end-requires : goal.put_line-end-requires
put_line-end-requires c = (
  c.code.ensures.1,
  answer_below c.args.n c.args.answers.now c.loop-i.i c.requires.all c.loop-i-test.true,
  omega (arith, c.loop-i.invariant.few, c.loop-i.invariant.same, c.loop-i-test.true, c.requires.n_in_bounds),
)

pub loop-i-preserved : goal.loop-i-preserved
loop-i-preserved c =
    printing_more c.loop-i.invariant c.in-Some.ensures c.requires.counted.few c.requires.n_in_bounds c.loop-i-test.true
    (subst (λ k. PutText c.loop-i.out c.loop-i.end (line k (get_or c.args.answers.now c.loop-i.i 0)) c.put_line-end.new.out c.put_line-end.result) c.code.ensures.0 c.put_line-end.ensures)
    c.put_line-end.auto.out

pub returns-in_default : goal.returns-in_default
returns-in_default c = not_none c.loop-i.invariant c.loop-i-test.true c.in_default.ensures

pub returns : goal.returns
returns c = printing_done c.loop-i.invariant c.loop-i-test.false
