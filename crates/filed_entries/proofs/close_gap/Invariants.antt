-- `filed_entries::close_gap` meets its contract: after i turns the first i bytes are moved.
use mathlib.Core.Path.{◌≡◌}
use Prim.Native.Nat.{◌-◌, ◌≤◌}
use Rattle.filed_entries.proofs.Closing.{Closing}
use Rattle.filed_entries.proofs.close_gap.Given as goal

abbrev pub invariant-loop-i : goal.invariant-loop-i
invariant-loop-i l = (l.i-end ≡ l.end - l.next) × Closing l.initial.bytes l.bytes l.at l.next l.i × (l.i ≤ l.i-end)
