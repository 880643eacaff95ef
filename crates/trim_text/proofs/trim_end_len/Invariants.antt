use Rattle.trim_text.specs.Patterns.{pattern_number}
use Rattle.trim_text.proofs.Sides.{EndAt}
use Rattle.trim_text.proofs.trim_end_len.Given as goal

abbrev pub invariant-loop-n : goal.invariant-loop-n
invariant-loop-n l = EndAt (pattern_number l.pattern) l.text l.n

abbrev pub decreases-loop-n : goal.decreases-loop-n
decreases-loop-n l = l.n
