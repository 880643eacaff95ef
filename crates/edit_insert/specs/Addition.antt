-- `append` and `prepend`, the calls of append.rs and prepend.rs that take no position.
use Rattle.std.specs.Prelude.{Bool, true, false}
use Rattle.model.specs.Text.{Text}
use Rattle.model.specs.Call.{Edit, append, prepend}

-- at the back of the tail, or at the front of the head
abbrev pub addition : Bool → Text → Edit
addition true = append
addition false = prepend
