use Rattle.trim_text.specs.Patterns.{pattern_number}
use Rattle.trim_text.proofs.Sides.{StartAt}
use lib.ListN.{length}
use Prim.Native.Nat.{◌-◌}
use Rattle.trim_text.proofs.trim_start_len.Given as goal

abbrev pub invariant-loop-code : goal.invariant-loop-code
invariant-loop-code l = StartAt (pattern_number l.pattern) l.text l.i

abbrev pub decreases-loop-code : goal.decreases-loop-code
decreases-loop-code l = length l.text - l.i
