-- The calls that change a range of the source: `reset`, which clears its chunks without a replacement, and `freeze`.
use Rattle.std.specs.Prelude.{◌≡◌, ℕ}
use Rattle.model.specs.Call.{Edit, reset, freeze}
use Rattle.memory_layout.specs.Layout.{NONE}
use Rattle.memory_list.specs.declared.Change.{Change}
use Rattle.memory_list.specs.declared.Change.TheVariants.{Clear, Freeze}

abbrev pub edit_of : Change → ℕ → ℕ → Edit
edit_of (Clear v) a b = reset a b
edit_of Freeze a b = freeze a b

abbrev pub Resets : Change → Type 0
Resets (Clear v) = v ≡ NONE
Resets Freeze = Unit {0}
