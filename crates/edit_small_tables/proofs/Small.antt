-- Laws of what `Small` in specs/ defines.
use mathlib.Core.Path.{◌≡◌}
use Rattle.model.specs.MagicString.{MagicString, Result}

-- where the steps refuse, the desk is as it was
abbrev pub Stays : (MagicString → Result) → Type 0
Stays f = (m : MagicString) → ((f m).number ≡ 0 → ⊥) → (f m).desk ≡ m
