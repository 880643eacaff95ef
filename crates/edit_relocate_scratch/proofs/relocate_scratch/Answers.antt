use mathlib.Core.Path.{refl}
use native.Mathlib.Omega.{arith}
use Rattle.memory_layout.specs.Layout.{PIECES_LEN, STORE_LEN, SCRATCH_LEN}
use Rattle.edit_scratch.proofs.Tables.{zeros_scratch}
use Rattle.edit_relocate_scratch.proofs.relocate_scratch.Goals as goal

pub relocate_by-requires : goal.relocate_by-requires
relocate_by-requires c = record { well_formed = c.requires.well_formed; scratch = zeros_scratch SCRATCH_LEN PIECES_LEN STORE_LEN refl (omega arith) (omega arith); tested = c.requires.tested }
