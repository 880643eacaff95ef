-- `utf8::valid_by_character` meets its contract: what is left of the text decides, after each character.
use mathlib.Core.Path.{◌≡◌}
use Prim.Native.Nat.{◌≤◌, ◌-◌}
use lib.ListN.{length, drop}
use Rattle.utf8.specs.Rfc3629.{utf8}
use Rattle.utf8.proofs.validity.valid_by_character.Given as goal

abbrev pub invariant-loop-width : goal.invariant-loop-width
invariant-loop-width l = (l.i ≤ length l.s) × (utf8 l.s ≡ utf8 (drop l.i l.s))

abbrev pub decreases-loop-width : goal.decreases-loop-width
decreases-loop-width l = length l.s - l.i
