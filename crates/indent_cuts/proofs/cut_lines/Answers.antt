use mathlib.Core.Path.{sym, ◌∙◌}
use native.Mathlib.Omega.{arith}
use Rattle.indent_cuts.proofs.Lines.{lines_start, lines_placed, lines_room, lines_end, lines_full, lines_more}
use Rattle.indent_cuts.proofs.cut_lines.Goals as goal

pub loop-x-init : goal.loop-x-init
loop-x-init c = lines_start c.requires

pub returns-in-End : goal.returns-in-End
returns-in-End c = lines_end c.requires c.loop-x.invariant c.in-End.ensures

pub returns-then-is_full : goal.returns-then-is_full
returns-then-is_full c = lines_full c.requires c.loop-x.invariant c.in-Start.ensures (sym c.is_full.ensures ∙ c.if-is_full.true)

pub cut_part-cur-requires : goal.cut_part-cur-requires
cut_part-cur-requires c =
    let inv = c.loop-x.invariant in
    record { linked = inv.cutting.linked; placed = lines_placed c.requires inv; cut_room = lines_room c.requires inv (sym c.is_full.ensures ∙ c.if-is_full.false) }

pub overflow_add-row : goal.overflow_add-row
overflow_add-row c =
    let room = lines_room c.requires c.loop-x.invariant (sym c.is_full.ensures ∙ c.if-is_full.false) in
    omega (arith, room.piece, room.narrow_pieces)

pub loop-x-preserved : goal.loop-x-preserved
loop-x-preserved c = lines_more c.requires c.loop-x.invariant c.in-Start.ensures (sym c.is_full.ensures ∙ c.if-is_full.false) c.cut_part-cur.ensures
