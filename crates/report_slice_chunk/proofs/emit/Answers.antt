-- `chunk_slice::emit` meets its contract.
use mathlib.Core.Path.{refl, ◌∙◌}
use native.Mathlib.Omega.{arith}
use lib.ListN.{length-take, length-drop}
use Rattle.memory_texts.proofs.Over.{put_back}
use Rattle.report_slice_chunk.proofs.emit.Goals.{then-write, else-write}
use Rattle.report_slice_chunk.proofs.emit.Goals as goal

pub slice_bounds-put-count : goal.slice_bounds-put-count
slice_bounds-put-count c = omega (arith, c.requires.fits c.if-write.true)

pub slice_bounds-put-start : goal.slice_bounds-put-start
slice_bounds-put-start c = omega (arith, c.requires.fits c.if-write.true)

pub put-requires : goal.put-requires
put-requires c = simp (length-take, length-drop) (omega (arith, c.requires.fits c.if-write.true))

pub returns : goal.returns
returns c =
    elim c.if-write.branch [
      | then-write w ↦ record { out_is = w.out-is ∙ rw w.if-write.true (put_back _ _ _ _ _ (c.requires.fits w.if-write.true) w.put.ensures refl); next_is = refl }
      | else-write w ↦ record { out_is = w.out-is ∙ rw w.if-write.false refl; next_is = refl }
    ]
