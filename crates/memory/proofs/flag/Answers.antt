use mathlib.Core.Path.{refl}
use Rattle.memory.proofs.flag.Goals as goal

pub returns : goal.returns
returns c = refl
