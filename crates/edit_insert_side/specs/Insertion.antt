-- An insertion by rows: the side of row 0 that stands for the desk's own head or tail, and the edge that the search looks for.
use Rattle.std.specs.Prelude.{Bool, true, false, not}
use Rattle.model.specs.Text.{Text}
use Rattle.model.specs.MagicString.{MagicString, with_whole}
use Rattle.model.specs.Insert.{push}
use Rattle.memory_list.specs.declared.Key.{Key}
use Rattle.memory_list.specs.declared.Key.TheVariants.{Start, End}

-- a text more in the tail, which is row 0's outro, or in the head, its intro
abbrev pub whole_add : Bool → Bool → Text → MagicString → MagicString
whole_add outro front t m = with_whole (not outro) m (push front t)

-- what the search looks for
abbrev pub key_of : Bool → Key
key_of true = End
key_of false = Start
