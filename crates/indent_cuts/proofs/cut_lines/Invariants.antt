use Prim.Native.Nat.{◌-◌}
use Rattle.indent_cuts.proofs.Lines.{LinesAt}
use Rattle.indent_cuts.proofs.cut_lines.Given as goal

abbrev pub invariant-loop-x : goal.invariant-loop-x
invariant-loop-x l = LinesAt l.exclude l.source l.initial.t l.initial.p l.i l.from l.end l.mark (l.laid, l.len) l.top l.t l.p l.cur l.at l.m l.row

abbrev pub decreases-loop-x : goal.decreases-loop-x
decreases-loop-x l = l.end - l.at
