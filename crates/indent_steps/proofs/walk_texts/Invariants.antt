use Rattle.indent_turns.specs.Walk.{left, Walking}
use Rattle.indent_steps.proofs.walk_texts.Given as goal

abbrev pub invariant-loop-next : goal.invariant-loop-next
invariant-loop-next l = Walking l.indentor l.exclude l.source l.pieces l.store l.initial.t l.at l.state.should_indent_next_char l.t l.p l.s

abbrev pub decreases-loop-next : goal.decreases-loop-next
decreases-loop-next l = left l.at
