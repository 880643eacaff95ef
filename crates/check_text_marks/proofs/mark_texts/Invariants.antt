-- The invariant: the texts of the first i rows lie inside and apart, the marks are theirs, and `top` is the byte behind them.
use Prim.Native.Nat.{◌+◌, ◌≤◌}
use Rattle.memory.specs.Layout.{piece_at}
use Rattle.memory.specs.WellFormed.{among}
use Rattle.check_marks.proofs.Passing.{PassesTo}
use Rattle.check_bit_marks.specs.BitMarks.{bit_at}
use Rattle.check_text_marks.proofs.mark_texts.Given as goal

abbrev pub invariant-loop-i : goal.invariant-loop-i
invariant-loop-i l =
    PassesTo ◌≤◌ l.size (bit_at l.initial.marks) l.byte (λ k w. (piece_at l.pieces (l.at + k)).0 + (piece_at l.pieces (l.at + k)).1 ≤ w) (λ k. among (piece_at l.pieces (l.at + k))) l.i (bit_at l.marks) l.top
