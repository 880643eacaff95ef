use native.Mathlib.Omega.{arith}
use Rattle.memory_layout.specs.Layout.{SCRATCH_LEN, INDENT_PIECES_LEN, INDENT_STORE_LEN}
use Rattle.memory.proofs.Desks.{zeros_length, zeros_at}
use Rattle.indent_scratch.proofs.indent_scratch.Goals as goal

pub indent_by-requires : goal.indent_by-requires
indent_by-requires c =
    let pieces = zeros_length INDENT_PIECES_LEN INDENT_PIECES_LEN (omega arith) in let store = zeros_length INDENT_STORE_LEN INDENT_STORE_LEN (omega arith) in record {
      desk = c.requires;
      indent_scratch = record {
        scratch = record { chunks = zeros_length SCRATCH_LEN SCRATCH_LEN (omega arith); clear = zeros_at SCRATCH_LEN SCRATCH_LEN; pieces = rw pieces (omega arith); store = rw store (omega arith) };
        pieces = pieces;
        store = store;
      };
    }
