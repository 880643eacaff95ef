-- `relocate` past its tests.
use Rattle.std.specs.Prelude.{◌≡◌, List, ℕ, ◌≤◌, length}
use Rattle.model.specs.Call.{relocate, refused_before}
use Rattle.memory.specs.Layout.{magic_string_of}
use Rattle.edit_relocate_steps.specs.Relocated.{Movable}

-- neither 3, nor 8, nor zero width, nor 4, nor 10
pub record Tested (a b to : ℕ) (source t p s : List ℕ) : Type 0 where
  pub placed : refused_before (magic_string_of source t p s) (relocate a b to) ≡ 0
  pub movable : Movable a b to
  pub inside : b ≤ length source
