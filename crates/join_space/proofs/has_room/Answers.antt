-- `join_space::has_room` meets its contract: what is needed is taken off the limits of the tables, and the desk keeps what they leave.
use mathlib.Core.Path.{refl}
use native.Mathlib.Omega.{arith}
use Rattle.join_space.proofs.Room.{no_chunks, no_pieces, no_bytes, left_over}
use Rattle.join_space.proofs.has_room.Goals as goal

pub returns-then-n-most_chunks : goal.returns-then-n-most_chunks
returns-then-n-most_chunks c = no_chunks c.args.desk.chunks.now c.args.desk.pieces.now c.args.desk.store.now c.args.n (omega (arith, c.if-n-most_chunks.true))

pub returns-then-n-most_pieces : goal.returns-then-n-most_pieces
returns-then-n-most_pieces c = no_pieces c.args.desk.chunks.now c.args.desk.pieces.now c.args.desk.store.now c.args.n (omega (arith, c.if-n-most_pieces.true))

pub returns-then-n-most_bytes : goal.returns-then-n-most_bytes
returns-then-n-most_bytes c = no_bytes c.args.desk.chunks.now c.args.desk.pieces.now c.args.desk.store.now c.args.n (omega (arith, c.if-n-most_bytes.true))

pub returns : goal.returns
returns c =
    left_over c.args.desk.chunks.now c.args.desk.pieces.now c.args.desk.store.now c.args.n
    (omega (arith, c.if-n-most_chunks.false)) (omega (arith, c.if-n-most_pieces.false)) (omega (arith, c.if-n-most_bytes.false)) refl refl refl c.keeps.ensures
