-- The cut that comes first is one at most.
use Prim.Native.Nat.{◌≤◌}
use native.Mathlib.Omega.{arith}
use lib.ListN.{length}
use mathlib.Core.List.{List}
use Prim.Native.Nat.{ℕ}
use Rattle.edit_scratch.specs.Tables.{Roomy}
use Rattle.edit_insert_side.specs.declared.Spot.{Spot}
use Rattle.edit_insert_side.specs.declared.Spot.TheVariants.{At, Whole}
use Rattle.edit_insert_side.specs.Spot.{cuts_at}

pub few_cuts : (spot : Spot) → length (cuts_at spot) ≤ 1
few_cuts (At q left) = omega arith
few_cuts (Whole outro) = omega arith

pub cuts_roomy : (spot : Spot) {t : List ℕ} → Roomy 1 t → Roomy (length (cuts_at spot)) t
cuts_roomy spot y = record { linked = y.linked; room = omega (arith, y.room, few_cuts spot); narrow = y.narrow }
