-- `insert_row` meets its contract, whichever row the piece goes to.
use Rattle.edit_insert_side.proofs.Insertion.{inserted_for, row_in, run_for}
use Rattle.edit_insert_scratch.proofs.insert_row.Goals as goal

pub add_piece-requires : goal.add_piece-requires
add_piece-requires c =
    let w = c.row_for-i.ensures in
    let k = run_for c.args.spot c.args.t.now c.args.pieces.now c.args.store.now _ _ w c.requires.readable c.requires.desk_small in
    record { i_in_bounds = row_in c.args.spot c.args.t.now _ _ w c.requires.readable.linked; run_in = k.0; run_small = k.1; spare = c.requires.spare; text_len_bound = c.requires.text_len_bound }

pub returns : goal.returns
returns c =
    inserted_for c.args.text.now c.args.pieces.now c.args.store.now c.args.t.now _ _ _ c.args.front c.requires.readable c.add_piece.auto.t c.args.spot c.row_for-i.ensures c.add_piece.ensures
