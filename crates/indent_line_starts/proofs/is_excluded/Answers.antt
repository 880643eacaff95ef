use mathlib.Core.Path.{◌∙◌}
use mathlib.Core.Logic.{inl, inr}
use Rattle.indent_line_starts.proofs.Turns.{pair_passed}
use Rattle.indent_line_starts.proofs.is_excluded.Goals as goal
use Rattle.indent_line_starts.proofs.is_excluded.Goals.{else-start-i-via-then-start-i+else-i-end, else-start-i-via-else-start-i}

pub loop-rest-preserved : goal.loop-rest-preserved
loop-rest-preserved c =
    c.loop-rest.invariant
    ∙ pair_passed c.loop-rest.rest.now c.args.i c.in-len2-up.len_at_least
    (elim c.else-start-i.branch [
      | else-start-i-via-then-start-i+else-i-end w ↦ inr w.if-i-end.false
      | else-start-i-via-else-start-i w ↦ inl w.if-start-i.false
    ])
