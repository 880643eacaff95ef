-- `slice::slice_into` meets its contract.
use mathlib.Core.Path.{refl}
use lib.ListN.{drop}
use Rattle.memory_table.specs.Order.{entries}
use Rattle.memory_view.specs.declared.DeskView.{DeskView}
use Rattle.report_slice_walk.specs.declared.SliceRange.{SliceRange}
use Rattle.report_slice_walk.specs.Walk.{chunks_of, walked}
use Rattle.report_slice_walk.proofs.Into.{walk_proper, into_fits, into_wrote, Proper}
use Rattle.report_slice_walk.proofs.slice_into.Goals as goal

proper : (v : DeskView) (r : SliceRange) → Proper (walked v r)
proper v r = walk_proper v.source.now r.with_intro r.begin r.end (chunks_of v.pieces.now v.store.now (drop r.chunk (entries v.chunks.now)))

pub slice_walk-requires-2-clause-fits : goal.slice_walk-requires-2-clause-fits
slice_walk-requires-2-clause-fits c = λ e. into_fits _ _ _ _ _ (proper c.args.desk c.args.range) c.in_ok-n.ensures refl c.if-out-n.false

pub returns : goal.returns
returns c = into_wrote _ _ _ _ _ (proper c.args.desk c.args.range) c.in_ok-n.ensures refl c.if-out-n.false _ _ _ c.slice_walk-2.ensures
