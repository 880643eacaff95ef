use mathlib.Core.Path.{ap}
use native.Mathlib.Omega.{arith}
use lib.ListN.{get_or, drop_of_length-le}
use Rattle.model.specs.Text.{line_feeds}
use Rattle.report_measures.proofs.Loops.{feeds_cons, feed_most}
use Rattle.report_measures.proofs.line_feeds.Goals as goal

pub loop-b-init : goal.loop-b-init
loop-b-init c = (omega arith, omega arith)

pub overflow_add-n : goal.overflow_add-n
overflow_add-n c =
    let h = feed_most (get_or c.args.t.now c.loop-b.b-index 0) in
    omega (arith, c.feed-n.ensures, h, c.requires, c.loop-b.invariant.0, c.loop-b-test.true)

pub loop-b-preserved : goal.loop-b-preserved
loop-b-preserved c =
    let t = c.args.t.now in (
      omega (arith, c.feed-n.ensures, feed_most (get_or t c.loop-b.b-index 0), c.loop-b.invariant.0),
      omega (arith, c.feed-n.ensures, c.loop-b.invariant.1, feeds_cons t c.loop-b.b-index c.loop-b-test.true),
    )

pub returns : goal.returns
returns c = omega (arith, c.loop-b.invariant.1, ap line_feeds (drop_of_length-le c.args.t.now {i = c.loop-b.b-index} c.loop-b-test.false))
