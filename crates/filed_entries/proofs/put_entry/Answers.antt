-- `filed_entries::put_entry` meets its contract.
use native.Mathlib.Omega.{arith}
use lib.ListN.{length-set}
use Rattle.filed_entries.proofs.Slices.{entry_put}
use Rattle.filed_entries.proofs.put_entry.Goals as goal

pub bounds-bytes-marks : goal.bounds-bytes-marks
bounds-bytes-marks c = simp length-set (omega (arith, c.requires.count_bound, c.requires.holds.bytes))

pub returns : goal.returns
returns c = entry_put c.requires.holds _ _ _ c.requires.call_bound c.put.ensures
