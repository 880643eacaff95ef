-- `filed_marks::reading::size_of` meets its contract.
use native.Mathlib.Omega.{arith}
use Rattle.filed_marks.proofs.Readings.{size_marked, size_unmarked}
use Rattle.filed_marks.proofs.reading.size_of.Goals as goal

pub returns-then-marked : goal.returns-then-marked
returns-then-marked c = omega (arith, size_marked c.args.marked c.args.at c.args.next c.if-marked.true)

pub returns : goal.returns
returns c = omega (arith, size_unmarked c.args.marked c.args.at c.args.next c.if-marked.false)
