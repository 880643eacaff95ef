-- `insert_row_in_place` meets its contract, whichever row the piece goes to.
use Rattle.edit_insert_side.proofs.Insertion.{row_in}
use Rattle.edit_insert_in_place.proofs.Added.{ready_for}
use Rattle.edit_insert_in_place.proofs.Calls.{top_for}
use Rattle.edit_insert_in_place.proofs.insert_row_in_place.Goals as goal

pub add_in_place-requires : goal.add_in_place-requires
add_in_place-requires c =
    let w = c.row_for-i.ensures in
    let k = ready_for c.args.spot c.args.chunks.now c.args.pieces.now c.args.store.now c.args.text.now _ _ c.args.l w c.requires in
    record { i_in_bounds = row_in c.args.spot c.args.chunks.now _ _ w c.requires.readable.linked; pieces_len_bound = c.requires.lent_pieces; text_room = k.0; run_in = k.1 }

pub returns : goal.returns
returns c =
    top_for c.args.spot _ c.args.front c.args.text.now c.args.pieces.now c.args.store.now c.args.chunks.now _ _ _ c.args.l _ _ c.requires c.add_in_place.auto.chunks c.add_in_place.ensures
    c.row_for-i.ensures
