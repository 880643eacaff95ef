-- `add_in_place` meets its contract: the text is put above a row and a byte that the run lies below.
use native.Mathlib.Omega.{arith}
use Rattle.edit_insert_in_place.proofs.Added.{added_on_top}
use Rattle.edit_insert_in_place.proofs.add_in_place.Goals as goal

pub add_text-requires : goal.add_text-requires
add_text-requires c = record { i_in_bounds = c.requires.i_in_bounds; p_len_bound = omega (arith, c.requires.pieces_len_bound); text_room = c.requires.text_room }

pub returns : goal.returns
returns c = added_on_top c.requires.text_room c.requires.run_in c.add_text.ensures
