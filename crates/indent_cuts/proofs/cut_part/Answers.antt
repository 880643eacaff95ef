use Prim.Native.Nat.{◌+◌}
use mathlib.Core.Path.{ap}
use native.Mathlib.Omega.{arith}
use Rattle.memory_table.specs.declared.Row.{Row}
use Rattle.indent_cuts.proofs.Splice.{cut_top, cut_done}
use Rattle.indent_cuts.proofs.cut_part.Goals as goal

pub overflow_add-n : goal.overflow_add-n
overflow_add-n c = omega (arith, ap (λ (r : Row). r.start) c.get_row-z.ensures, c.requires.cut_room.chunk, c.requires.cut_room.narrow)

pub add_row-requires : goal.add_row-requires
add_row-requires c = let n = ap (λ (r : Row). r.start + 1) c.get_row-z.ensures in record { i_in_bounds = omega (arith, n, c.requires.cut_room.chunk, c.split_row.auto.t); p_len_bound = c.requires.cut_room.narrow_pieces; top_room = cut_top c.requires.linked c.requires.placed n c.split_row.ensures c.requires.cut_room.piece }

pub returns : goal.returns
returns c =
    let n = ap (λ (r : Row). r.start + 1) c.get_row-z.ensures in
    cut_done c.requires.linked c.requires.placed n c.split_row.ensures c.split_row.auto.t c.add_row.ensures c.add_row.auto.t
