-- Document 01: "Either does the call or gives one of the table's numbers", each call its own; and "Numbers 6, 7, 9 and `update_with`'s 10 leave the desk as the
-- Rust does .. All others change nothing." Document 02, L8, of 20: "cuts made stay".
use Rattle.std.specs.Prelude.{ℕ, Bool, List, ◌∷◌, eqb}
use Rattle.model.specs.Text.{any}

-- ---- what an answer is

-- among the numbers of an edit, or 0
abbrev pub among : ℕ → List ℕ → Bool
among n ns = any (eqb n) (0 ∷ ns)
