use mathlib.Core.Path.{◌≡◌, sym, ◌∙◌}
use mathlib.Core.Bool.{true}
use lib.Dec.{eqb}
use Rattle.model.specs.Text.{LF}
use Rattle.indent_line_starts.proofs.Turns.{mark_clear}
use Rattle.indent_line_starts.proofs.mark_past_byte.Goals as goal

pub returns-then-mark_on : goal.returns-then-mark_on
returns-then-mark_on c =
    let m = c.if-mark.false in
    let f : eqb c.args.b LF ≡ true = sym (mark_clear c.args.mark c.args.b m) ∙ sym c.mark_on.ensures ∙ c.if-mark_on.true in
    rw (m, f, c.is_excluded.ensures)
