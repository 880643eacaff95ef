-- `filed_marks::reading::put_reading` meets its contract.
use native.Mathlib.Omega.{arith}
use lib.ListN.{length-set}
use Rattle.filed_marks.proofs.Readings.{size_marked, size_least, examiner_put, member_put}
use Rattle.filed_marks.proofs.reading.put_reading.Goals as goal

pub bounds-out-n : goal.bounds-out-n
bounds-out-n c = omega (arith, c.requires.next_in_bounds, c.put.auto, size_least c.args.marked c.args.at c.args.next)

pub bounds-out-n-then-marked : goal.bounds-out-n-then-marked
bounds-out-n-then-marked c = simp length-set (omega (arith, c.requires.next_in_bounds, c.put.auto, size_marked c.args.marked c.args.at c.args.next c.if-marked.true))

pub returns-then-marked : goal.returns-then-marked
returns-then-marked c =
    examiner_put c.args.marked c.args.at c.args.next c.args.i c.args.bytes.now c.args.out.now c.put.new.out c.requires.at_le_next.1 c.requires.next_in_bounds
    c.put.ensures c.if-marked.true

pub returns-else-marked : goal.returns-else-marked
returns-else-marked c =
    member_put c.args.marked c.args.at c.args.next c.args.i c.args.bytes.now c.args.out.now c.put.new.out c.requires.at_le_next.1 c.requires.next_in_bounds
    c.put.ensures c.if-marked.false
