use native.Mathlib.Omega.{arith}
use Rattle.trim_in_place.proofs.InPlace.{top_ready, top_leaves}
use Rattle.trim_in_place.proofs.trim_in_place.Goals as goal

pub trim_steps-ends-requires : goal.trim_steps-ends-requires
trim_steps-ends-requires c = top_ready c.requires.well_formed c.requires.above c.requires.trim_room (omega arith) (omega arith)

pub returns : goal.returns
returns c = top_leaves c.requires.well_formed c.requires.above c.requires.trim_room c.trim_steps-ends.ensures c.trimmed.ensures (omega arith) (omega arith) (omega arith)
