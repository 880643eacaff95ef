-- The invariant: the words from first up to i are full, the others what they were, and `seen` is 0 exactly if none of them had a mark.
use Prim.Native.Nat.{◌≤◌}
use lib.ListN.{length}
use Rattle.check_bit_marks.proofs.Marking.{Whole}
use Rattle.check_bit_marks.proofs.mark_words.Given as goal

abbrev pub invariant-loop-i : goal.invariant-loop-i
invariant-loop-i l = (l.first ≤ l.i) × (l.i ≤ l.end) × (l.end ≤ length l.initial.words) × Whole l.initial.words l.first l.i l.words l.seen
