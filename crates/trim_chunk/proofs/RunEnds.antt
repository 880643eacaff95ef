-- Runs below a row end at or before it, and lie below every row at or before which they end.
use mathlib.Core.List.{List}
use Prim.Native.Nat.{ℕ, ◌-◌, ◌≤◌}
use native.Mathlib.Omega.{arith}
use Rattle.memory_table.specs.Order.{Entry}
use Rattle.memory.specs.Layout.{Place}
use Rattle.memory_used.specs.Below.{Below}
use Rattle.memory_texts.specs.Low.{RunsLow}
use Rattle.trim_chunk.specs.RunEnds.{RunTo, RunsTo}

module _ (p : List ℕ) (byte row : ℕ) where
  run_to : (x : Place) → Below p byte row x → RunTo row x
  run_to x h g = omega (arith, (h (x.1 - 1) (omega arith)).0)

  run_below : (x : Place) → Below p byte row x → (k : ℕ) → RunTo k x → Below p byte k x
  run_below x h k g i l = (omega (arith, g (omega arith)), (h i l).1)

  pub runs_to : (e : Entry) → RunsLow p row byte e → (k : ℕ) → row ≤ k → RunsTo k e
  runs_to e h k g =
      record { intro = λ i. omega (arith, run_to e.intro h.intro i); outro = λ i. omega (arith, run_to e.outro h.outro i) }

  pub runs_low : (e : Entry) → RunsLow p row byte e → (k : ℕ) → RunsTo k e → RunsLow p k byte e
  runs_low e h k g = record { intro = run_below e.intro h.intro k g.intro; outro = run_below e.outro h.outro k g.outro }
