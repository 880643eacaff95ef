-- `insert_scratch::insert_scratch` meets its contract: a text longer than the store passes the limits, and its own tables are clear and long enough.
use mathlib.Core.Path.{sym, ◌∙◌}
use native.Mathlib.Omega.{arith}
use Rattle.memory_layout.specs.Layout.{SCRATCH_LEN, INSERT_PIECES_LEN, INSERT_STORE_LEN}
use Rattle.memory.proofs.Desks.{zeros_length, zeros_at}
use Rattle.edit_room_above.proofs.Finishing.{formed_usable}
use Rattle.edit_insert_side.proofs.Calls.{whole_long}
use Rattle.edit_insert_scratch.proofs.insert_scratch.Goals as goal

pub counted-requires : goal.counted-requires
counted-requires c = formed_usable c.requires

pub returns-then-text-gt-STORE_LEN : goal.returns-then-text-gt-STORE_LEN
returns-then-text-gt-STORE_LEN c =
    (rw (c.counted.ensures.0, c.counted.ensures.1) (whole_long c.args.spot c.args.front c.args.text.now c.requires (sym c.cut_count.ensures ∙ c.if-cut_count-eq0.true) c.if-text-gt-STORE_LEN.true), c.counted.ensures.2)

pub insert_by-requires : goal.insert_by-requires
insert_by-requires c =
    record {
      well_formed = c.requires;
      long_scratch = record {
        scratch =
            record {
              chunks = zeros_length SCRATCH_LEN SCRATCH_LEN (omega arith);
              clear = zeros_at SCRATCH_LEN SCRATCH_LEN;
              pieces = rw (zeros_length INSERT_PIECES_LEN INSERT_PIECES_LEN (omega arith)) (omega arith);
              store = rw (zeros_length INSERT_STORE_LEN INSERT_STORE_LEN (omega arith)) (omega arith);
            };
        pieces = zeros_length INSERT_PIECES_LEN INSERT_PIECES_LEN (omega arith);
        store = zeros_length INSERT_STORE_LEN INSERT_STORE_LEN (omega arith);
      };
    }
