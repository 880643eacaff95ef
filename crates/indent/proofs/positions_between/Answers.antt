use Rattle.utf8.specs.Rfc3629.{between}
use Rattle.indent.proofs.Call.{all_stop, all_more, all_end}
use Rattle.indent.proofs.positions_between.Goals as goal

pub returns-then-not-boundary : goal.returns-then-not-boundary
returns-then-not-boundary c = all_stop (between c.args.source.now) c.args.exclude.now c.loop-position.position-index c.loop-position.invariant c.loop-position-test.true _ c.boundary.ensures c.if-not-boundary.true

pub loop-position-preserved : goal.loop-position-preserved
loop-position-preserved c = all_more (between c.args.source.now) c.args.exclude.now c.loop-position.position-index c.loop-position.invariant c.loop-position-test.true _ c.boundary.ensures c.if-not-boundary.false

pub returns : goal.returns
returns c = all_end (between c.args.source.now) c.args.exclude.now c.loop-position.position-index c.loop-position.invariant c.loop-position-test.false
