-- The trims as calls, on scratch tables: the desk loaded, one side or both, and the desk written back.
use Rattle.std.specs.Prelude.{◌≡◌, Bool, false, List, ℕ, length}
use Rattle.memory_layout.specs.Layout.{TRIM_PIECES_LEN, TRIM_STORE_LEN}
use Rattle.model.specs.MagicString.{ok}
use Rattle.model.specs.Call.{Edit, steps, refused_before, idle}
use Rattle.memory.specs.Layout.{magic_string_of}
use Rattle.memory.specs.Calls.{Ran}
use Rattle.trim_steps.specs.Model.{trim_sides}

-- scratch pieces and store with room behind the lent ones: for the rows of two trims, and for all of a source
pub record Wide (p s : List ℕ) : Type 0 where
  pub pieces : length p ≡ TRIM_PIECES_LEN
  pub store : length s ≡ TRIM_STORE_LEN

-- ---- the call, for each of the trims

abbrev pub TrimRan : Bool → Bool → ℕ → List ℕ → List ℕ → List ℕ → List ℕ → List ℕ → List ℕ → List ℕ → ℕ → ℕ → Type 0
TrimRan both front pattern source t p s t' p' s' r c =
    (e : Edit) → refused_before (magic_string_of source t p s) e ≡ 0 → steps e (magic_string_of source t p s) ≡ ok (trim_sides both front pattern (magic_string_of source t p s)) → idle e ≡ false
    → Ran e source t p s t' p' s' r c
