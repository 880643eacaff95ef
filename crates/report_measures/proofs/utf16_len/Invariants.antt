-- `measures::utf16_len` meets its contract.
use mathlib.Core.Path.{◌≡◌}
use mathlib.Core.Bool.{true}
use Prim.Native.Nat.{◌+◌, ◌-◌, ◌≤◌}
use lib.ListN.{length, drop}
use Rattle.utf8.specs.Rfc3629.{utf8}
use Rattle.model.specs.MagicString.{utf16_len}
use Rattle.report_measures.proofs.utf16_len.Given as goal

abbrev pub invariant-loop-code : goal.invariant-loop-code
invariant-loop-code l = (l.i ≤ length l.t) × (utf8 (drop l.i l.t) ≡ true) × (l.n + utf16_len (drop l.i l.t) ≡ utf16_len l.t)

abbrev pub decreases-loop-code : goal.decreases-loop-code
decreases-loop-code l = length l.t - l.i
