use mathlib.Core.Path.{refl}
use native.Mathlib.Omega.{arith}
use Rattle.memory_texts.proofs.Over.{put_back}
use Rattle.indent_head_tail.proofs.Own.{laid_now}
use Rattle.indent_head_tail.proofs.lay_indentor.Goals as goal

pub returns : goal.returns
returns c = laid_now c.requires c.if-s-at.false (put_back _ _ _ _ _ (omega (arith, c.requires.byte_in, c.if-s-at.false)) c.put.ensures refl)
