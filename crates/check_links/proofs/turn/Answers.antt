use Rattle.check_links.proofs.Stretches.{turn_on, turn_back}
use Rattle.check_links.proofs.turn.Goals as goal

pub returns-then-start-side : goal.returns-then-start-side
returns-then-start-side c = turn_on c.requires.from_le_to.0 c.requires.start_lt_end.0 c.if-start-side.true

pub returns-then-end-side : goal.returns-then-end-side
returns-then-end-side c = turn_back c.requires.from_le_to.0 c.requires.start_lt_end.0 c.if-end-side.true
