-- `insert_small::insert_with` meets its contract: its own tables are as long as the limits that the desk keeps ask.
use native.Mathlib.Omega.{arith}
use Rattle.memory.proofs.Desks.{zeros_length}
use Rattle.edit_insert_small.proofs.Sizes.{small_fits}
use Rattle.memory_layout.specs.Layout.{SMALL_CHUNKS_LEN, SMALL_PIECES_LEN, SMALL_STORE_LEN}
use Rattle.edit_insert_small.proofs.insert_with.Goals as goal

pub insert_by-requires : goal.insert_by-requires
insert_by-requires c =
    record {
      well_formed = c.requires.well_formed;
      fits = small_fits (zeros_length SMALL_CHUNKS_LEN SMALL_CHUNKS_LEN (omega arith)) (zeros_length SMALL_PIECES_LEN SMALL_PIECES_LEN (omega arith))
          (zeros_length SMALL_STORE_LEN SMALL_STORE_LEN (omega arith)) c.requires.store_value;
    }
