use Rattle.edit_relocate_range.proofs.Walk.{WalkAt}
use Rattle.edit_relocate_range.proofs.find_range.Given as goal

abbrev pub invariant-loop-k : goal.invariant-loop-k
invariant-loop-k l = WalkAt l.t l.a l.b l.first l.last l._k
