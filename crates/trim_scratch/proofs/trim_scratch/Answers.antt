use mathlib.Core.Path.{refl}
use native.Mathlib.Omega.{arith}
use Rattle.memory_layout.specs.Layout.{SCRATCH_LEN, TRIM_PIECES_LEN, TRIM_STORE_LEN}
use Rattle.memory.proofs.Desks.{zeros_length}
use Rattle.edit_scratch.proofs.Tables.{zeros_scratch}
use Rattle.trim_scratch.proofs.trim_scratch.Goals as goal

pub trim_by-requires : goal.trim_by-requires
trim_by-requires c = record { well_formed = c.requires; scratch = zeros_scratch SCRATCH_LEN TRIM_PIECES_LEN TRIM_STORE_LEN refl (omega arith) (omega arith); wide = record { pieces = zeros_length TRIM_PIECES_LEN TRIM_PIECES_LEN (omega arith); store = zeros_length TRIM_STORE_LEN TRIM_STORE_LEN (omega arith) } }
