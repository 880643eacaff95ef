-- `slice::slice_walk` meets its contract.
use Rattle.report_slice_walk.specs.Walk.{walked}
use Rattle.report_slice_walk.proofs.Slicing.{Slicing}
use Rattle.report_slice_walk.proofs.slice_walk.Given as goal

abbrev pub invariant-loop-k : goal.invariant-loop-k
invariant-loop-k l =
    Slicing l.write l.desk.source.now l.desk.chunks.now l.desk.pieces.now l.desk.store.now l.end (walked l.desk l.fn.range) l.initial.out l.n l._k l.row l.with_intro l.begin l.o l.out
