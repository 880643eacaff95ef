-- What a search for the place tells.
use mathlib.Core.Path.{refl}
use mathlib.Core.List.{List}
use mathlib.Core.Logic.{inl, inr}
use Prim.Native.Nat.{ℕ}
use Rattle.std.specs.Prelude.{Option, Some, None}
use Rattle.std.specs.Option.{unwrap_or}
use Rattle.memory_list.specs.declared.Key.TheVariants.{Start}
use Rattle.memory_list.specs.Find.{meets, FoundIn}
use Rattle.edit_relocate_steps.specs.Relocated.{PlaceIn}

-- the row that it finds, or else row 0
pub place_in : (t : List ℕ) (to : ℕ) (r : Option ℕ) → FoundIn (meets Start to) t r → PlaceIn t to (unwrap_or r 0)
place_in t to (Some i) w = inl w
place_in t to None w = inr (refl, w)
