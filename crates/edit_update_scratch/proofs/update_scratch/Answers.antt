use mathlib.Core.Path.{refl}
use native.Mathlib.Omega.{arith}
use Rattle.memory_layout.specs.Layout.{PIECES_LEN, SCRATCH_LEN, UPDATE_STORE_LEN}
use Rattle.memory.proofs.Desks.{zeros_length}
use Rattle.edit_scratch.proofs.Tables.{zeros_scratch}
use Rattle.edit_update_scratch.proofs.update_scratch.Goals as goal

pub update_by-requires : goal.update_by-requires
update_by-requires c = let long = zeros_length UPDATE_STORE_LEN UPDATE_STORE_LEN (omega arith) in record { well_formed = c.requires.well_formed; update_scratch = record { scratch = zeros_scratch SCRATCH_LEN PIECES_LEN UPDATE_STORE_LEN refl (omega arith) (omega arith); store = long }; start_lt_end = c.requires.start_lt_end; overwrite_value = c.requires.overwrite_value }
