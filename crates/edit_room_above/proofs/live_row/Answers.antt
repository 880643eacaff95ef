use Rattle.memory_table.specs.Order.{entry_of}
use Rattle.edit_room_above.proofs.Passing.{entry_none, entry_some}
use Rattle.edit_room_above.proofs.live_row.Goals as goal

pub live_run-a-requires : goal.live_run-a-requires
live_run-a-requires c = record { run_in = c.requires.entry_in.runs.intro; live_in = c.requires.live_in }

pub live_run-b-requires : goal.live_run-b-requires
live_run-b-requires c = record { run_in = c.requires.entry_in.runs.outro; live_in = c.live_run-a.ensures.inside }

pub returns-then-r-eq-NONE : goal.returns-then-r-eq-NONE
returns-then-r-eq-NONE c = entry_none (entry_of c.args.r) c.live_run-a.ensures c.live_run-b.ensures c.if-r-eq-NONE.true

pub returns : goal.returns
returns c = entry_some (entry_of c.args.r) c.live_run-a.ensures c.live_run-b.ensures c.max.result c.if-r-eq-NONE.false c.requires.entry_in.replacement c.max.ensures
