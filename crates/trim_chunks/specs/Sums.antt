-- Sums over the chunk rows, in the direction of a trim.
use Rattle.std.specs.Prelude.{Bool, true, false, List, reverse}

-- the list in the direction of the trim
abbrev pub way : {A : Type 0} → Bool → List A → List A
way true l = l
way false l = reverse l
