use mathlib.Core.Path.{sym, ◌∙◌}
use mathlib.Core.Bool.{true}
use Rattle.utf8.specs.Rfc3629.{between}
use Rattle.model.specs.Text.{all}
use Rattle.memory_frozen.specs.Frozen.{frozen_in_rows}
use Rattle.indent.proofs.Call.{misplaced, marked_desk, passed}
use Rattle.indent.proofs.refused.Goals as goal

pub returns-then-not-positions_between : goal.returns-then-not-positions_between
returns-then-not-positions_between c = misplaced (all (between c.args.source.now) c.args.exclude.now) (frozen_in_rows true 0 0 c.args.chunks.now) (sym c.positions_between.ensures ∙ c.if-not-positions_between.true)

pub returns-then-any_frozen : goal.returns-then-any_frozen
returns-then-any_frozen c =
    let placed = sym c.positions_between.ensures ∙ c.if-not-positions_between.false in
    marked_desk _ _ placed (sym c.any_frozen.ensures ∙ c.if-any_frozen.true)

pub returns : goal.returns
returns c =
    let placed = sym c.positions_between.ensures ∙ c.if-not-positions_between.false in
    passed _ _ placed (sym c.any_frozen.ensures ∙ c.if-any_frozen.false)
