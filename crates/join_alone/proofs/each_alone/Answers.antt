-- `join_alone::each_alone` meets its contract: the parts of its own tables that are lent are as long as the desk's, which are no longer than the full sizes.
use mathlib.Core.Path.{sym}
use lib.ListN.{length}
use Rattle.memory_layout.specs.Layout.{CHUNKS_LEN, PIECES_LEN, STORE_LEN}
use Rattle.memory.proofs.Desks.{zeros_length}
use Rattle.join_alone.proofs.each_alone.Goals as goal

pub slice_bounds-each_alone_by-end : goal.slice_bounds-each_alone_by-end
slice_bounds-each_alone_by-end c = sym (zeros_length CHUNKS_LEN (length c.args.desk.chunks.now) c.requires.sized.chunks)

pub slice_bounds-each_alone_by-end-2 : goal.slice_bounds-each_alone_by-end-2
slice_bounds-each_alone_by-end-2 c = sym (zeros_length PIECES_LEN (length c.args.desk.pieces.now) c.requires.sized.pieces)

pub slice_bounds-each_alone_by-end-3 : goal.slice_bounds-each_alone_by-end-3
slice_bounds-each_alone_by-end-3 c = sym (zeros_length STORE_LEN (length c.args.desk.store.now) c.requires.sized.store)

pub each_alone_by-requires : goal.each_alone_by-requires
each_alone_by-requires c =
    record {
      well_formed = c.requires;
      lengths = record {
        chunks = zeros_length CHUNKS_LEN (length c.args.desk.chunks.now) c.requires.sized.chunks;
        pieces = zeros_length PIECES_LEN (length c.args.desk.pieces.now) c.requires.sized.pieces;
        store = zeros_length STORE_LEN (length c.args.desk.store.now) c.requires.sized.store;
      };
    }
