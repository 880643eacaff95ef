use mathlib.Core.Path.{refl}
use Rattle.memory_texts.proofs.Over.{put_back}
use Rattle.trim_chunk.proofs.put_at.Goals as goal

pub returns : goal.returns
returns c = put_back _ _ _ _ _ c.requires c.put.ensures refl
