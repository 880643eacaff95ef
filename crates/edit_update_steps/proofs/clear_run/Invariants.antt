use mathlib.Core.Path.{◌≡◌}
use mathlib.Core.List.{map}
use Prim.Native.Nat.{ℕ}
use Rattle.memory_table.specs.Order.{entry_at, next_of}
use Rattle.memory_list.specs.Insert.{Placed}
use Rattle.edit_update_steps.proofs.Walk.{Running, goal_of}
use Rattle.edit_update_steps.specs.Walk.{runs}
use Rattle.edit_update_steps.proofs.clear_run.Given as goal

-- `cur` is the row that `c` was read from
abbrev pub invariant-loop-k : goal.invariant-loop-k
invariant-loop-k l =
    (cur : ℕ) × (l.c.next ≡ next_of l.t cur) × ((w : Placed l.initial.t l.i)
    → Running l.initial.t l.t cur l.c.end l.end l._k (goal_of l.initial.t l.i l.end w.us w.bs) (runs (entry_at l.initial.t l.i).end l.end (map (entry_at l.initial.t) w.bs)).done)
