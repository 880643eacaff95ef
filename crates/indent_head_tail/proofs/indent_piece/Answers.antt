use Rattle.indent_head_tail.proofs.Run.{piece_done}
use Rattle.indent_head_tail.proofs.indent_piece.Goals as goal

pub returns : goal.returns
returns c = let x = c.in_ok-behind.ensures in (piece_done x.0 c.args.p.now _ c.args.row c.requires.piece_room.row_in c.set_piece.ensures, x.1)
