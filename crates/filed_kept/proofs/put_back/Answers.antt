-- `filed_kept::put_back` meets its contract.
use native.Mathlib.Omega.{arith}
use lib.ListN.{drop, length-drop}
use lib.Seq.{length-take-le}
use Rattle.memory_layout.specs.Layout.{CHUNKS_LEN, PIECES_LEN, STORE_LEN, KEPT_CHUNKS, KEPT_PIECES, KEPT_STORE}
use Rattle.filed_kept.proofs.Keeping.{part_all}
use Rattle.filed_kept.proofs.put_back.Goals as goal

pub put-requires-3 : goal.put-requires-3
put-requires-3 c = omega (arith, length-take-le STORE_LEN (drop KEPT_STORE c.args.bytes.now) (omega (arith, c.requires.bytes_len, length-drop KEPT_STORE c.args.bytes.now)), c.requires.full.store)

pub returns : goal.returns
returns c =
    record {
      chunks = part_all c.args.chunks.now c.args.words.now KEPT_CHUNKS CHUNKS_LEN (omega (arith, c.requires.words_len)) c.requires.full.chunks c.put.ensures;
      pieces = part_all c.args.pieces.now c.args.words.now KEPT_PIECES PIECES_LEN (omega (arith, c.requires.words_len)) c.requires.full.pieces c.put-2.ensures;
      store = part_all c.args.store.now c.args.bytes.now KEPT_STORE STORE_LEN (omega (arith, c.requires.bytes_len)) c.requires.full.store c.put-3.ensures;
    }
