use mathlib.Core.Path.{refl}
use mathlib.Core.Bool.{false}
use Prim.Native.Nat.{◌+◌}
use Rattle.indent_cuts.specs.Lines.{lines_from}
use Rattle.memory_list.proofs.Insert.{room_i}
use Rattle.indent_source_chunk.proofs.Source.{own_room, own_lines, own_done, inner_done}
use Rattle.indent_source_chunk.proofs.indent_source.Goals as goal

pub add_row-next-requires : goal.add_row-next-requires
add_row-next-requires c = let pre = c.requires in record { i_in_bounds = room_i c.args.t.now c.args.i c.requires.linked c.requires.placed; p_len_bound = c.requires.narrow_pieces; top_room = own_room pre }

pub cut_lines-requires : goal.cut_lines-requires
cut_lines-requires c = own_lines c.requires c.if-x-start.true c.add_row-next.ensures c.add_row-next.auto.t

pub returns-then-x-start : goal.returns-then-x-start
returns-then-x-start c =
    own_done c.requires c.if-x-start.true c.add_row-next.ensures c.add_row-next.auto.t refl (lines_from c.args.exclude.now c.args.source.now false (c.args.x + 1) c.args.end) _ _ _ c.cut_lines.ensures

pub returns : goal.returns
returns c = inner_done c.requires _ _ _ _ c.cut_lines-2.ensures
