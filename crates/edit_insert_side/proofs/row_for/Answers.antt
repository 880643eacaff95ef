use mathlib.Core.Path.{refl}
use mathlib.Core.Logic.{inl, inr}
use Rattle.edit_insert_side.proofs.row_for.Goals as goal

pub returns-in-Some : goal.returns-in-Some
returns-in-Some c = rw c.in-At.is (inl (rw c.key_for.ensures at c.in-Some.ensures, refl))

pub returns-in-None : goal.returns-in-None
returns-in-None c = rw c.in-At.is (inr (rw c.key_for.ensures at c.in-None.ensures, refl, refl))
