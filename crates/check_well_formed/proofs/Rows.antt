-- Laws of what `Rows` in specs/ defines.
use mathlib.Core.Path.{◌≡◌}
use mathlib.Core.Bool.{true}
use mathlib.Core.List.{List}
use Prim.Native.Nat.{ℕ}
use Rattle.utf8.specs.Rfc3629.{utf8}
use Rattle.check_well_formed.specs.Rows.{Shaped, Chunked, Pieced}

pub record ByRows (source t p s : List ℕ) : Type 0 where
  pub shaped : Shaped source t p s
  pub text : utf8 source ≡ true
  pub chunked : Chunked source t
  pub pieced : Pieced t p s
