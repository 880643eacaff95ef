use Rattle.std.proofs.lemmas.Result.{err_from_is_err_and}
use Rattle.indent_turns.proofs.Turns.{no_chunk, piece_ready, chunk_turn_ready, part_ready, turned_part, turned_last, turned_chunk, stopped_chunk, turned_piece, stopped_piece}
use Rattle.indent_turns.proofs.turn.Goals as goal

pub part_turn-requires : goal.part_turn-requires
part_turn-requires c = part_ready c.requires.walking

pub returns-in-Some : goal.returns-in-Some
returns-in-Some c = turned_part c.requires c.if-at.true c.in-Some.ensures

pub returns-in-None : goal.returns-in-None
returns-in-None c = turned_last c.requires c.if-at.true c.in-None.ensures

pub chunk_turn-requires : goal.chunk_turn-requires
chunk_turn-requires c = chunk_turn_ready c.requires.walking c.if-at.false c.in-Chunks.is

pub returns-in_err-texted-in-Chunks : goal.returns-in_err-texted-in-Chunks
returns-in_err-texted-in-Chunks c =
    let p = err_from_is_err_and c.from_residual.result c.from_residual.ensures.1 in
    rw (p.1, p.2) (stopped_chunk c.requires c.if-at.false c.in-Chunks.is _ _ _ c.in_err-texted-in-Chunks.ensures)

pub returns-in_ok-texted-in-Chunks : goal.returns-in_ok-texted-in-Chunks
returns-in_ok-texted-in-Chunks c = turned_chunk c.requires c.if-at.false c.in-Chunks.is c.in_ok-texted-in-Chunks.ensures

pub piece_turn-requires : goal.piece_turn-requires
piece_turn-requires c = piece_ready c.requires.walking c.if-at.false (no_chunk c.in-Head.is)

pub returns-in_err-texted-in-Head : goal.returns-in_err-texted-in-Head
returns-in_err-texted-in-Head c =
    let p = err_from_is_err_and c.from_residual-in_err-texted-in-Head.result c.from_residual-in_err-texted-in-Head.ensures.1 in
    rw (p.1, p.2) (stopped_piece c.requires c.if-at.false (no_chunk c.in-Head.is) _ _ c.in_err-texted-in-Head.ensures)

pub returns-in_ok-texted-in-Head : goal.returns-in_ok-texted-in-Head
returns-in_ok-texted-in-Head c = turned_piece c.requires c.if-at.false (no_chunk c.in-Head.is) c.in_ok-texted-in-Head.ensures
