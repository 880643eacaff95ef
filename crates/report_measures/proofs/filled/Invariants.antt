-- `measures::filled` meets its contract.
use mathlib.Core.Path.{◌≡◌}
use mathlib.Core.Bool.{true}
use Prim.Native.Nat.{◌-◌, ◌≤◌}
use lib.ListN.{length, drop}
use Rattle.utf8.specs.Rfc3629.{utf8}
use Rattle.report_measures.proofs.ByCharacters.{white}
use Rattle.report_measures.proofs.filled.Given as goal

abbrev pub invariant-loop-code : goal.invariant-loop-code
invariant-loop-code l = (l.i ≤ length l.t) × (utf8 (drop l.i l.t) ≡ true) × (white (drop l.i l.t) ≡ white l.t)

abbrev pub decreases-loop-code : goal.decreases-loop-code
decreases-loop-code l = length l.t - l.i
