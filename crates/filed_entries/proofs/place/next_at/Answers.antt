-- `filed_entries::place::next_at` meets its contract: where a record stands, the reader finds it.
use Rattle.sheet_records.proofs.Walk.{not_none}
use Rattle.filed_entries.proofs.place.next_at.Goals as goal

pub returns-in-Some : goal.returns-in-Some
returns-in-Some c = record { one = _; taken = c.in-Some.ensures }

pub returns-in-None : goal.returns-in-None
returns-in-None c = not_none c.args.calls.now c.args.at c.requires c.in-None.ensures
