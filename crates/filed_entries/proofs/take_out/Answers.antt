-- `filed_entries::take_out` meets its contract.
use native.Mathlib.Omega.{arith}
use Rattle.filed_entries.proofs.Slices.{behind_lent, entry_out}
use Rattle.filed_entries.proofs.take_out.Goals as goal

pub place_of-p-requires : goal.place_of-p-requires
place_of-p-requires c = behind_lent c.requires.holds _ (omega (arith, c.requires.i_lt_count))

pub returns : goal.returns
returns c = entry_out c.requires.holds c.args.i _ _ c.place_of-p.ensures c.close_gap.ensures c.close_gap-2.ensures
