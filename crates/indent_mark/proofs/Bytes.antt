-- Laws of what `Bytes` in specs/ defines.
use mathlib.Core.Bool.{Bool}
use mathlib.Core.List.{[], ◌∷◌, ◌++◌}
use Rattle.model.specs.Text.{Text}
use Rattle.indent_mark.specs.Bytes.{mark_on, indented_byte}

-- ---- `indent_frag`

-- the text that `indent_frag` leaves
unfoldable pub indent_bytes : Text → Bool → Text → Text
indent_bytes indentor mark [] = []
indent_bytes indentor mark (b ∷ s) = indented_byte indentor mark b ++ indent_bytes indentor (mark_on mark b) s
