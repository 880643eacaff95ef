-- `sheet_records::count_records` meets its contract: the invariant is `Walked`: the bytes passed are the records counted.
use Prim.Native.Nat.{◌≤◌}
use mathlib.Core.Path.{◌≡◌}
use Rattle.sheet_records.specs.Found.{walk_bytes, walk_at}
use Rattle.sheet_records.proofs.Walk.{Walked}
use Rattle.sheet_records.proofs.count_records.Given as goal

abbrev pub invariant-loop-entry : goal.invariant-loop-entry
invariant-loop-entry l = (walk_bytes l.entry-iterator ≡ l.s) × Walked l.s (walk_at l.entry-iterator) l.count l.text × (l.count ≤ l.most)
