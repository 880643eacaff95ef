-- `add_piece` meets its contract: the run is one of the lent tables, so there is room behind them.
use native.Mathlib.Omega.{arith}
use Rattle.memory_table.specs.Order.{entry_at}
use Rattle.memory_table.specs.Sides.{side}
use Rattle.edit_insert_scratch.proofs.Behind.{behind_room, piece_added}
use Rattle.edit_insert_scratch.proofs.add_piece.Goals as goal

pub add_text-requires : goal.add_text-requires
add_text-requires c = let room = behind_room c.requires.spare (side c.args.outro (entry_at c.args.t.now c.args.i)) c.requires.run_in c.args.text.now c.requires.run_small c.requires.text_len_bound in record { i_in_bounds = c.requires.i_in_bounds; p_len_bound = omega (arith, c.requires.spare.rows_narrow); text_room = room }

pub returns : goal.returns
returns c = piece_added c.requires.run_in c.requires.run_small c.requires.spare c.requires.text_len_bound c.add_text.ensures
