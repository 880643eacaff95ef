-- `sheet_lines::put_decimal` meets its contract: one byte for a number below 10, else two.
use native.Mathlib.Omega.{arith}
use lib.ListN.{length-set}
use Rattle.sheet_lines.proofs.Lines.{put_one, put_two}
use Rattle.sheet_lines.proofs.put_decimal.Goals as goal

pub returns-then-n-lt10 : goal.returns-then-n-lt10
returns-then-n-lt10 c = put_one c.args.out.now c.args.at c.args.n c.digit_of.result c.if-n-lt10.true (omega arith) c.digit_of.ensures

pub bounds-out-at-3 : goal.bounds-out-at-3
bounds-out-at-3 c = omega (arith, length-set c.args.out.now c.args.at c.digit_of-2.result)

pub returns : goal.returns
returns c =
    put_two c.args.out.now c.args.at c.args.n c.digit_of-2.result c.digit_of-3.result c.if-n-lt10.false (omega arith)
    c.digit_of-2.ensures c.digit_of-3.ensures
