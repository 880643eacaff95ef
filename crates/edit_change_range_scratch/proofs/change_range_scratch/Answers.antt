use mathlib.Core.Path.{refl}
use native.Mathlib.Omega.{arith}
use Rattle.memory_layout.specs.Layout.{PIECES_LEN, STORE_LEN, SCRATCH_LEN}
use Rattle.edit_scratch.proofs.Tables.{zeros_scratch}
use Rattle.edit_change_range_scratch.proofs.change_range_scratch.Goals as goal

pub change_range_by-requires : goal.change_range_by-requires
change_range_by-requires c = record { well_formed = c.requires.well_formed; scratch = zeros_scratch SCRATCH_LEN PIECES_LEN STORE_LEN refl (omega arith) (omega arith); a_lt_b = c.requires.a_lt_b; empty_at = c.requires.empty_at }
