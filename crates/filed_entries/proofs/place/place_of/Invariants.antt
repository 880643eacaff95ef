-- `filed_entries::place::place_of` meets its contract: as many records have been passed as there were turns.
use Rattle.filed_entries.proofs.Places.{Going}
use Rattle.filed_entries.proofs.place.place_of.Given as goal

abbrev pub invariant-loop : goal.invariant-loop
invariant-loop l = Going l.calls l.at l.counter
