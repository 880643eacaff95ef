-- `measures::line_feeds` meets its contract.
use mathlib.Core.Path.{◌≡◌}
use Prim.Native.Nat.{◌+◌, ◌≤◌}
use lib.ListN.{drop}
use Rattle.model.specs.Text.{line_feeds}
use Rattle.report_measures.proofs.line_feeds.Given as goal

abbrev pub invariant-loop-b : goal.invariant-loop-b
invariant-loop-b l = (l.n ≤ l.b-index) × (l.n + line_feeds (drop l.b-index l.t) ≡ line_feeds l.t)
