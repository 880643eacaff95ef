-- Laws of what `Lay` in specs/ defines.
use mathlib.Core.Path.{refl}
use mathlib.Core.List.{List}
use Prim.Native.Nat.{ℕ}
use Rattle.memory.specs.WellFormed.{ReplacementIn, EntryIn, Readable}
use Rattle.edit_rebuild.specs.Lay.{own}

pub own_in : {t p s : List ℕ} → Readable t p s → EntryIn p s (own t)
unfolding ReplacementIn
own_in h = record { runs = record { intro = h.desk.intro; outro = h.desk.outro }; replacement = λ n. absurd (n refl) }
